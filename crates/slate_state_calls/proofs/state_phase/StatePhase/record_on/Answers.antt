use Rattle.std.proofs.Common.{ap, inl, w64, ◌∙◌}
use Rattle.std.proofs.lemmas.Int.{to_z-of_z}
use Rattle.slate_txn_changes.specs.LogWorks.{work_goes}
use Rattle.slate_state_calls.proofs.Ending.{ended, not_memory, refused}
use Rattle.slate_state_calls.proofs.Leading.{leads_none, leads_some}
use Rattle.slate_state_calls.specs.Commits.{record_put}
use Rattle.slate_state_calls.specs.StateSteps.{after_record, on_record}
use Rattle.slate_txn_log.specs.declared.log_kind.LogKind.TheVariants as kinds
use Rattle.slate_layout_records.specs.RecordBytes.{decoded_record}
use Rattle.slate_state_calls.proofs.state_phase.StatePhase.record_on.Goals as goal

pub returns-else-is_memory-clause-goes : goal.returns-else-is_memory-clause-goes
returns-else-is_memory-clause-goes c =
    let p = c.args.changing in
    let out = work_goes kinds.Compactions decoded_record (record_put p.change) c.args.now p.work c.args.answer.now in
    let goes = rw (to_z-of_z w64 c.args.now c.ranges.now, c.records.ensures.log, c.in-Done-Err.field-0-is) at c.in-Done-Err.ensures.goes in
    let same = refused out p.work c.goes_on.new.self.work c.in-Done-Err.e c.is_memory.result goes c.is_memory.ensures c.if-is_memory.false in
    inl (rw c.stand-else-is_memory.ensures (ap (on_record c.args.step c.args.now c.args.compactor.now p) same))

pub returns-else-is_memory-2-clause-goes : goal.returns-else-is_memory-2-clause-goes
returns-else-is_memory-2-clause-goes c =
    let p = c.args.changing in
    let out = work_goes kinds.Compactions decoded_record (record_put p.change) c.args.now p.work c.args.answer.now in
    let goes = rw (to_z-of_z w64 c.args.now c.ranges.now, c.records.ensures.log, c.in-Done-Ok.field-0-is) at c.in-Done-Ok.ensures.goes in
    let same = ended out p.work c.goes_on.new.self.work c.in-Done-Ok.end goes in
    let leads = rw (to_z-of_z w64 c.args.now c.ranges.now) at c.in-Err.ensures.leads in
    inl (rw c.stand-else-is_memory-2.ensures (ap (on_record c.args.step c.args.now c.args.compactor.now p) same ∙ not_memory c.in-Err.e c.is_memory-in-Err.result leads.0 c.is_memory-in-Err.ensures c.if-is_memory-2.false))

pub returns-in-Ok-None-clause-goes : goal.returns-in-Ok-None-clause-goes
returns-in-Ok-None-clause-goes c =
    let p = c.args.changing in
    let out = work_goes kinds.Compactions decoded_record (record_put p.change) c.args.now p.work c.args.answer.now in
    let goes = rw (to_z-of_z w64 c.args.now c.ranges.now, c.records.ensures.log, c.in-Done-Ok.field-0-is) at c.in-Done-Ok.ensures.goes in
    let same = ended out p.work c.goes_on.new.self.work c.in-Done-Ok.end goes in
    let leads = rw (to_z-of_z w64 c.args.now c.ranges.now) at (leads_none _ c.args.compactor.now _ (after_record c.args.step) c.in-Ok-None.field-0 c.in-Ok-None.field-0-is c.in-Ok-None.ensures.leads) in
    inl (rw c.stand-in-Ok-None.ensures (ap (on_record c.args.step c.args.now c.args.compactor.now p) same ∙ leads))

pub returns-in-Ok-Some-clause-goes : goal.returns-in-Ok-Some-clause-goes
returns-in-Ok-Some-clause-goes c =
    let p = c.args.changing in
    let out = work_goes kinds.Compactions decoded_record (record_put p.change) c.args.now p.work c.args.answer.now in
    let goes = rw (to_z-of_z w64 c.args.now c.ranges.now, c.records.ensures.log, c.in-Done-Ok.field-0-is) at c.in-Done-Ok.ensures.goes in
    let same = ended out p.work c.goes_on.new.self.work c.in-Done-Ok.end goes in
    let leads = rw (to_z-of_z w64 c.args.now c.ranges.now) at (leads_some _ c.args.compactor.now _ (after_record c.args.step) c.in-Ok-Some.field-0 _ c.in-Ok-Some.field-0-is c.in-Ok-Some.ensures.leads) in
    let whole = ap (on_record c.args.step c.args.now c.args.compactor.now p) same ∙ leads in
    rw (c.stand-in-Ok-Some.ensures, c.in-Ok-Some.next-is) whole
