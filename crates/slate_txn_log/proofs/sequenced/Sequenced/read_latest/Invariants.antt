use Rattle.std.proofs.Common.{◌≡◌, ◌+◌, ◌*◌, pos, true}
use Rattle.slate_store.specs.CallRuns.{Running}
use Rattle.slate_txn_log.specs.ReadPhase.{read_asks, read_goes, read_due, is_listing, rank}
use Rattle.slate_txn_log.specs.declared.read_phase.ReadPhase.TheVariants.{Listing}
use Rattle.slate_txn_log.proofs.sequenced.Sequenced.read_latest.Given as goal

-- the run so far, which stands at this phase with so many tries left
abbrev pub invariant-loop-result : goal.invariant-loop-result
invariant-loop-result g l =
    let told = g.S.ObjectStore.told in
    record {
      running : Running is_listing (read_asks l.self.db l.self.log) (read_goes l.self.log (g.C.ObjectCodec.decoded l.self.codec)) (pos 0) l.fn.tries (told l.fn.store) (told l.store) Listing l.read l.left;
      due : read_due l.read ≡ true;
    }

abbrev pub decreases-loop-result : goal.decreases-loop-result
decreases-loop-result g l = 4 * l.left + rank l.read
