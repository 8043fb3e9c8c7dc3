use Rattle.std.proofs.Common.{refl, w64}
use Rattle.std.proofs.lemmas.Int.{to_z-of_z}
use Rattle.slate_txn_changes.specs.LogWorks.{work_goes}
use Rattle.slate_state_calls.specs.Commits.{record_put}
use Rattle.slate_txn_log.specs.declared.log_kind.LogKind.TheVariants as logs
use Rattle.slate_cluster_protocol.specs.Rows.{record_on}
use Rattle.slate_cluster_protocol.specs.declared.work.Work.TheVariants.{Records}
use Rattle.slate_layout_records.specs.RecordBytes.{decoded_record}
use Rattle.slate_cluster_steps.proofs.Goings.{refused_on}
use Rattle.slate_cluster_steps.proofs.steps.record_on.Goals as goal

pub returns-in-Done-Err-clause-ok : goal.returns-in-Done-Err-clause-ok
returns-in-Done-Err-clause-ok c =
    let facts = c.args.facts.now in
    let p = c.args.changing.now in
    let out = work_goes logs.Compactions decoded_record (record_put p.change) c.args.now p.work c.args.answer.now in
    let goes = rw (to_z-of_z w64 c.args.now c.ranges.now, c.records.ensures.log, c.in-Done-Err.field-0-is) at c.in-Done-Err.ensures.goes in
    refused_on (record_on facts c.args.db p) out p.work c.goes_on.new.self.work c.in-Done-Err.e facts (Records c.args.db c.goes_on.new.self) c.refused.result refl goes c.refused.ensures
