use Rattle.std.proofs.Common.{arith}
use Rattle.slate_txn_laws.proofs.ApplyWalks.{moves_end}
use Rattle.slate_txn_laws.proofs.moves.fenced_moves_end.Goals as goal

pub returns : goal.returns
returns g c = λ decoded encoded refusal epoch epochs own right moment tries from to two named small old new s result applies serves ready.
    moves_end _ moment tries old new s from to result (omega (arith, two)) (λ top at le. two) named small serves ready applies
