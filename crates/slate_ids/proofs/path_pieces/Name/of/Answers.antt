use Rattle.std.proofs.Common.{sym, subst}
use Rattle.std.specs.Str.{IsUtf8}
use Rattle.slate_ids.specs.Pieces.{name_of}
use Rattle.slate_ids.proofs.Ascii.{id_utf8}
use Rattle.slate_ids.proofs.path_pieces.Name.of.Goals as goal

pub returns-in-Table-clause-text : goal.returns-in-Table-clause-text
returns-in-Table-clause-text c = subst (λ p. IsUtf8 (name_of p)) (sym c.in-Table.is) (id_utf8 c.in-Table.id)
