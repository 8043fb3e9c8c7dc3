use Rattle.std.proofs.Common.{Some, None, sym, arith}
use Rattle.std.proofs.lemmas.Str.Pattern.{split_once_first}
use Rattle.slate_ids.proofs.PathTexts.{no_slash, parts_same, read_same, read_shown}
use Rattle.slate_ids.proofs.object_path.ObjectPath.from_text.Goals as goal

pub returns-in-Some-clause-path : goal.returns-in-Some-clause-path
returns-in-Some-clause-path c =
    let s = split_once_first 47 c.args.text.now (Some (c.in-Some.db, c.in-Some.rest)) c.in-Some.ensures.cases (omega arith) in
    read_same _ _ _ (parts_same c.args.text.now _ _ s.1 s.2) c.parts_path.ensures

pub returns-in-Some-clause-shown : goal.returns-in-Some-clause-shown
returns-in-Some-clause-shown c =
    let s = split_once_first 47 c.args.text.now (Some (c.in-Some.db, c.in-Some.rest)) c.in-Some.ensures.cases (omega arith) in
    read_shown _ _ (read_same _ _ _ (parts_same c.args.text.now _ _ s.1 s.2) c.parts_path.ensures)

pub returns-in-None-clause-path : goal.returns-in-None-clause-path
returns-in-None-clause-path c = sym (no_slash c.args.text.now (split_once_first 47 c.args.text.now None c.in-None.ensures.cases (omega arith)))
