use Rattle.std.proofs.Common.{◌≡◌, ◌+◌, ◌*◌, true}
use Rattle.slate_store.specs.CallRuns.{Running}
use Rattle.slate_txn_log.specs.AdvancePhase.{advance_asks, advance_goes, advance_due, is_bounding, advance_rank}
use Rattle.slate_txn_log.specs.declared.advance_phase.AdvancePhase.TheVariants.{Bounding}
use Rattle.slate_txn_log.proofs.sequenced.Sequenced.advance.Given as goal

-- the run so far, which stands at this phase with so many tries left
abbrev pub invariant-loop-result : goal.invariant-loop-result
invariant-loop-result g l =
    let told = g.S.ObjectStore.told in
    record {
      running : Running is_bounding (advance_asks l.self.db l.self.log) advance_goes l.fn.moment l.fn.tries (told l.fn.store) (told l.store) (Bounding l.fn.n) l.advance l.left;
      due : advance_due l.advance ≡ true;
    }

abbrev pub decreases-loop-result : goal.decreases-loop-result
decreases-loop-result g l = 3 * l.left + advance_rank l.advance
