use Rattle.slate_ids.specs.Answers.{OrMemory-map}
use Rattle.slate_store.specs.CallRuns.{goes_further, done_with}
use Rattle.slate_txn_log.proofs.Deletes.{delete_faults, delete_allowed}
use Rattle.slate_txn_log.proofs.Faults.{call_rose}
use Rattle.std.proofs.Common.{refl}
use Rattle.slate_txn_log.proofs.sequenced.Sequenced.delete.Goals as goal

pub returns-in-Done : goal.returns-in-Done
returns-in-Done g c =
    let told = g.S.ObjectStore.told in
    let ran = done_with c.loop-result.invariant.running (told c.next.new.store) c.next.new.self c.in-Done.result c.in-Done.ensures.steps in
    let sequenced = c.args.self.now in
    let deletion = OrMemory-map c.in-Done.result (λ began. (c.next.new.self, began)) (λ ran. (c.next.new.self, ran)) ran in
    record {
      delete = deletion;
      allowed = delete_allowed sequenced c.args.n (told c.args.store.now) (told c.next.new.store) c.in-Done.result deletion;
      fault = call_rose c.in-Done.result (delete_faults sequenced.db sequenced.log) refl ran;
    }

pub loop-result-preserved : goal.loop-result-preserved
loop-result-preserved g c = record {
  running = goes_further c.loop-result.invariant.running c.in-Again.ensures.steps refl;
  due = c.in-Again.ensures.due;
}
