use Rattle.slate_ids.specs.Answers.{OrMemory-map}
use Rattle.slate_store.specs.CallRuns.{goes_further, done_with}
use Rattle.slate_txn_log.proofs.Faults.{call_rose}
use Rattle.slate_state_referenced.proofs.ReferencedFaults.{referenced_faults}
use Rattle.std.proofs.Common.{refl}
use Rattle.slate_state_referenced.proofs.referenced_phase.ReferencedPhase.drive.Goals as goal

pub returns-in-Done : goal.returns-in-Done
returns-in-Done g c =
    let told = g.S.ObjectStore.told in
    let sequenced = c.args.sequenced.now in
    let ran = done_with c.loop-result.invariant.running (told c.step.new.store) c.step.new.self c.in-Done.result c.in-Done.ensures.steps in
    record {
      read = OrMemory-map c.in-Done.result (λ began. (c.step.new.self, began)) (λ ran. (c.step.new.self, ran)) ran;
      fault = λ good. call_rose c.in-Done.result (referenced_faults sequenced.db (g.C.ObjectCodec.decoded sequenced.codec) good) c.requires.due ran;
    }

pub loop-result-preserved : goal.loop-result-preserved
loop-result-preserved g c = record {
  running = goes_further c.loop-result.invariant.running c.in-Again.ensures.steps refl;
  due = c.in-Again.ensures.more tt;
}
