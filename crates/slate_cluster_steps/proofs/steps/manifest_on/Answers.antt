use Rattle.std.proofs.Common.{refl, w64}
use Rattle.std.proofs.lemmas.Int.{to_z-of_z}
use Rattle.slate_txn_changes.specs.LogWorks.{work_goes}
use Rattle.slate_state_calls.specs.Commits.{manifest_put}
use Rattle.slate_txn_log.specs.declared.log_kind.LogKind.TheVariants as logs
use Rattle.slate_layout_manifests.specs.Decoding.{decoded_manifest}
use Rattle.slate_cluster_protocol.specs.Rows.{manifest_on}
use Rattle.slate_cluster_protocol.specs.declared.work.Work.TheVariants.{Manifests}
use Rattle.slate_cluster_steps.proofs.Goings.{ended_on, refused_on}
use Rattle.slate_cluster_steps.proofs.steps.manifest_on.Goals as goal

pub returns-in-Done-Err-clause-ok : goal.returns-in-Done-Err-clause-ok
returns-in-Done-Err-clause-ok c =
    let facts = c.args.facts.now in
    let p = c.args.changing.now in
    let out = work_goes logs.Manifest decoded_manifest (manifest_put p.change) c.args.now p.work c.args.answer.now in
    let goes = rw (to_z-of_z w64 c.args.now c.ranges.now, c.manifests.ensures.log, c.in-Done-Err.field-0-is) at c.in-Done-Err.ensures.goes in
    refused_on (manifest_on facts c.args.call.now c.args.db p) out p.work c.goes_on.new.self.work c.in-Done-Err.e facts (Manifests c.args.db c.goes_on.new.self) c.refused.result refl goes c.refused.ensures

pub returns-in-Done-Ok-clause-ok : goal.returns-in-Done-Ok-clause-ok
returns-in-Done-Ok-clause-ok c =
    let facts = c.args.facts.now in
    let p = c.args.changing.now in
    let out = work_goes logs.Manifest decoded_manifest (manifest_put p.change) c.args.now p.work c.args.answer.now in
    let goes = rw (to_z-of_z w64 c.args.now c.ranges.now, c.manifests.ensures.log, c.in-Done-Ok.field-0-is) at c.in-Done-Ok.ensures.goes in
    let same = ended_on (manifest_on facts c.args.call.now c.args.db p) out p.work c.goes_on.new.self.work c.in-Done-Ok.end goes in
    rw (c.learn.ensures, c.manifest_reply-reply.ensures) same
