use Rattle.std.proofs.Common.{◌≡◌, ◌+◌, ◌*◌, ◌<◌, true}
use Rattle.slate_txn.proofs.Moves.{RunningBy}
use Rattle.slate_txn.specs.Apply.{apply_starts, apply_asks, apply_rank, apply_due}
use Rattle.slate_txn.specs.ApplyMoves.{ways_by, ApplyMoves}
use Rattle.slate_txn.specs.Changing.{MayWith}
use Rattle.slate_txn.specs.declared.apply.ApplyPhase.TheVariants.{Committing}
use Rattle.slate_txn.proofs.stored.Stored.drive.Given as goal

-- the run so far, which stands at this phase with so many tries left
abbrev pub invariant-loop-result : goal.invariant-loop-result
invariant-loop-result g l =
    let told = g.S.ObjectStore.told in
    let codec = g.C.ObjectCodec in
    record {
      running : RunningBy apply_starts apply_asks (ApplyMoves (ways_by codec.decoded codec.encoded g.R.Rules.refusal (MayWith (goal.F-post g l.change)) l.right))
          l.fn.moment l.fn.tries (told l.fn.store) (told l.store) (Committing l.fn.commit, l.fn.self) (l.phase, l.self) l.left;
      some : 0 < l.left;
      due : apply_due l.phase ≡ true;
    }

abbrev pub decreases-loop-result : goal.decreases-loop-result
decreases-loop-result g l = 8 * l.left + apply_rank l.phase
