use Rattle.std.proofs.Common.{◌≡◌, pos, true}
use Rattle.slate_store.specs.CallRuns.{Running}
use Rattle.slate_txn_log.specs.Commit.{never}
use Rattle.slate_txn_log.specs.DeletePhase.{delete_asks, delete_goes, delete_due, delete_rank}
use Rattle.slate_txn_log.specs.declared.delete_phase.DeletePhase.TheVariants.{Bounding}
use Rattle.slate_txn_log.proofs.sequenced.Sequenced.delete.Given as goal

-- the run so far, which stands at this phase
abbrev pub invariant-loop-result : goal.invariant-loop-result
invariant-loop-result g l =
    let told = g.S.ObjectStore.told in
    record {
      running : Running never (delete_asks l.self.db l.self.log) delete_goes (pos 0) 1 (told l.fn.store) (told l.store) (Bounding l.fn.n) l.deletion 1;
      due : delete_due l.deletion ≡ true;
    }

abbrev pub decreases-loop-result : goal.decreases-loop-result
decreases-loop-result g l = delete_rank l.deletion
