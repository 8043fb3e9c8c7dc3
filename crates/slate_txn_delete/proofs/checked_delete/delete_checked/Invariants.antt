use Rattle.std.proofs.Common.{◌≡◌, ◌+◌, ◌*◌, pos, true}
use Rattle.slate_store.specs.CallRuns.{Running}
use Rattle.slate_txn_log.specs.declared.read_phase.ReadPhase.TheVariants.{Listing}
use Rattle.slate_txn_delete.specs.CheckedDelete.{checked_asks, checked_goes, checked_due, checked_rank, checked_starts}
use Rattle.slate_txn_delete.specs.declared.checked_delete_phase.CheckedDeletePhase.TheVariants.{Reading}
use Rattle.slate_txn_delete.proofs.checked_delete.delete_checked.Given as goal

-- the run so far, which stands at this phase with so many tries left
abbrev pub invariant-loop-result : goal.invariant-loop-result
invariant-loop-result g l =
    let told = g.S.ObjectStore.told in
    record {
      running : Running checked_starts (checked_asks l.sequenced.db l.sequenced.log) (checked_goes l.sequenced.log (g.C.ObjectCodec.decoded l.sequenced.codec) (g.N.VersionNames.named l.names)) (pos 0) l.fn.tries (told l.fn.store) (told l.store) (Reading l.fn.n Listing) l.deletion l.left;
      due : checked_due l.deletion ≡ true;
    }

abbrev pub decreases-loop-result : goal.decreases-loop-result
decreases-loop-result g l = 5 * l.left + checked_rank l.deletion
