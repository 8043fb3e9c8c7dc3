use Rattle.std.proofs.Common.{subst, sym}
use Rattle.std.specs.Str.{IsUtf8}
use Rattle.slate_ids.proofs.Ascii.{id_utf8}
use Rattle.slate_ids.proofs.ulid.Ulid.to_text.Goals as goal

pub text_of-requires : goal.text_of-requires
text_of-requires c = subst IsUtf8 (sym c.letters-letters.ensures.letters) (id_utf8 c.args.self.now)
