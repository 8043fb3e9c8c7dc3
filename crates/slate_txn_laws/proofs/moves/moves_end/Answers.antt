use Rattle.std.proofs.Common.{arith}
use Rattle.slate_txn_laws.proofs.ApplyWalks.{latest_enough, moves_end}
use Rattle.slate_txn_laws.proofs.Inside.{apply_inside}
use Rattle.slate_txn_laws.proofs.moves.moves_end.Goals as goal

pub returns : goal.returns
returns g c = record {
  answers = λ decoded encoded refusal right moment tries from to two named small old new s result applies serves ready.
      moves_end _ moment tries old new s from to result (omega (arith, two)) (λ top at le. two) named small serves ready applies;
  latest = λ decoded encoded refusal right moment tries from to one named small old new s result applies serves ready latest.
      moves_end _ moment tries old new s from to result one (latest_enough tries s from latest) named small serves ready applies;
  inside = λ decoded encoded refusal right inside moment tries from to two named small old new s result applies serves ready.
      apply_inside _ inside s new from to result (moves_end _ moment tries old new s from to result (omega (arith, two)) (λ top at le. two) named small serves ready applies);
}
