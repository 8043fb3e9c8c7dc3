use Rattle.std.proofs.lemmas.Str.{is_utf8-from_IsUtf8}
use Rattle.slate_layout_parts.proofs.texts.write_text.Goals as goal

pub returns-clause-typed : goal.returns-clause-typed
returns-clause-typed c = is_utf8-from_IsUtf8 c.args.text.now c.utf8.text
