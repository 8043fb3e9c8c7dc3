use Rattle.std.proofs.Common.{◌≡◌, pos, true}
use Rattle.slate_store.specs.CallRuns.{Running}
use Rattle.slate_txn_log.specs.Commit.{never}
use Rattle.slate_state_referenced.specs.Referenced.{referenced_asks, referenced_goes, referenced_due, referenced_rank}
use Rattle.slate_state_referenced.proofs.referenced_phase.ReferencedPhase.drive.Given as goal

-- the run so far, which stands at this phase
abbrev pub invariant-loop-result : goal.invariant-loop-result
invariant-loop-result g l =
    let told = g.S.ObjectStore.told in
    record {
      running : Running never (referenced_asks l.sequenced.db) (referenced_goes (g.C.ObjectCodec.decoded l.sequenced.codec)) (pos 0) 1 (told l.fn.store) (told l.store) l.fn.self l.self 1;
      due : referenced_due l.self ≡ true;
    }

abbrev pub decreases-loop-result : goal.decreases-loop-result
decreases-loop-result g l = referenced_rank l.self
