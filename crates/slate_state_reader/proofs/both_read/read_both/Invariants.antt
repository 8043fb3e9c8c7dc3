use Rattle.std.proofs.Common.{◌≡◌, ◌+◌, ◌*◌, pos, true}
use Rattle.slate_store.specs.CallRuns.{Running}
use Rattle.slate_txn_log.specs.declared.read_phase.ReadPhase.TheVariants.{Listing}
use Rattle.slate_state_reader.specs.BothReads.{both_asks, both_due, both_goes, both_rank, both_starts}
use Rattle.slate_state_reader.specs.declared.both_phase.BothPhase.TheVariants.{First}
use Rattle.slate_state_reader.proofs.both_read.read_both.Given as goal

-- the run so far, which stands at this phase with so many tries left
abbrev pub invariant-loop-result : goal.invariant-loop-result
invariant-loop-result g l =
    let told = g.S.ObjectStore.told in
    record {
      running : Running both_starts (both_asks l.first l.second) (both_goes g.C.ObjectCodec.decoded g.D.ObjectCodec.decoded l.first l.second) (pos 0) l.fn.tries (told l.fn.store) (told l.store) (First Listing) l.reading l.left;
      due : both_due l.reading ≡ true;
    }

abbrev pub decreases-loop-result : goal.decreases-loop-result
decreases-loop-result g l = 8 * l.left + both_rank l.reading
