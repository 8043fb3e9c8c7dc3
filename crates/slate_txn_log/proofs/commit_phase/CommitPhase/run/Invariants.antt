use Rattle.std.proofs.Common.{◌≡◌, true}
use Rattle.slate_store.specs.CallRuns.{Running}
use Rattle.slate_txn_log.specs.CommitPhase.{commit_asks, commit_goes, commit_due, commit_version, commit_rank}
use Rattle.slate_txn_log.specs.Commit.{never}
use Rattle.slate_txn_log.proofs.commit_phase.CommitPhase.run.Given as goal

-- the run so far, which stands at this phase
abbrev pub invariant-loop-result : goal.invariant-loop-result
invariant-loop-result g l =
    let told = g.S.ObjectStore.told in
    record {
      running : Running never (commit_asks l.sequenced.db l.sequenced.log) commit_goes l.fn.moment 1 (told l.fn.store) (told l.store) l.fn.self l.phase 1;
      due : commit_due l.phase ≡ true;
      version : commit_version l.phase ≡ commit_version l.fn.self;
    }

abbrev pub decreases-loop-result : goal.decreases-loop-result
decreases-loop-result g l = commit_rank l.phase
