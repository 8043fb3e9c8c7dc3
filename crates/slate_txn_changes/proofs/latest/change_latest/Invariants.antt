use Rattle.std.proofs.Common.{◌≡◌, ◌+◌, ◌*◌, true}
use Rattle.slate_txn_changes.specs.Changes.{change_commit}
use Rattle.slate_txn_changes.specs.Latest.{first_turn, latest_goes}
use Rattle.slate_txn_changes.specs.LogWorks.{work_asks, work_due, work_rank}
use Rattle.slate_txn_changes.specs.Turns.{is_turned, turn_asks}
use Rattle.slate_store.specs.CallRuns.{Running}
use Rattle.slate_txn_changes.proofs.latest.change_latest.Given as goal

-- the run so far, which stands at this work with so many tries left
abbrev pub invariant-loop-result : goal.invariant-loop-result
invariant-loop-result g l =
    let told = g.S.ObjectStore.told in
    record {
      running : Running is_turned (turn_asks (work_asks l.log.db l.log.log)) (latest_goes l.log.log (g.C.ObjectCodec.decoded l.log.codec)
          (change_commit (g.H.Change.made l.change) (g.H.Change.right_of l.change) (g.H.Change.fence_of l.change) (g.R.Rules.refusal l.rules) (g.C.ObjectCodec.encoded l.log.codec)) l.fn.moment)
          l.fn.moment l.fn.tries (told l.fn.store) (told l.store) first_turn (l.turns.work, l.turns.is_turned) l.left;
      due : work_due l.turns.work ≡ true;
    }

abbrev pub decreases-loop-result : goal.decreases-loop-result
decreases-loop-result g l = 6 * l.left + work_rank l.turns.work
