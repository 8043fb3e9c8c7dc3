use Rattle.slate_ids.specs.Answers.{OrMemory-map}
use Rattle.slate_store.specs.CallRuns.{begins, goes_further, done_with}
use Rattle.slate_txn_log.proofs.Commits.{commit_faults, answers_version}
use Rattle.slate_txn_log.proofs.Faults.{call_rose}
use Rattle.std.proofs.Common.{arith, ◌∙◌, refl, w64}
use Rattle.std.proofs.lemmas.Int.{to_z-of_z}
use Rattle.slate_txn_log.proofs.commit_phase.CommitPhase.run.Goals as goal

pub loop-result-init : goal.loop-result-init
loop-result-init g c = record { running = begins _ _ _ _ _ _ _ (omega arith); due = c.requires.due; version = refl }

pub returns-in-Done : goal.returns-in-Done
returns-in-Done g c =
    let inside = c.loop-result.invariant in
    let ran = done_with inside.running (g.S.ObjectStore.told c.next.new.store) c.next.new.self c.in-Done.result c.in-Done.ensures.steps in
    let here = rw (to_z-of_z w64 c.args.moment c.ranges.moment) at ran in
    record {
      run = OrMemory-map c.in-Done.result (λ began. (c.next.new.self, began)) (λ done. (c.next.new.self, done)) here;
      version = answers_version c.args.self c.loop-result.phase c.next.new.self c.in-Done.result c.in-Done.ensures.version inside.version;
      fault = call_rose c.in-Done.result (commit_faults c.args.sequenced.now.db c.args.sequenced.now.log) c.requires.due here;
    }

pub loop-result-preserved : goal.loop-result-preserved
loop-result-preserved g c = record {
  running = goes_further c.loop-result.invariant.running c.in-Again.ensures.steps refl;
  due = c.in-Again.ensures.due;
  version = c.in-Again.ensures.version ∙ c.loop-result.invariant.version;
}
