use Rattle.std.proofs.Common.{ap, inl, w64}
use Rattle.std.proofs.lemmas.Int.{to_z-of_z}
use Rattle.slate_txn_changes.specs.LogWorks.{work_goes}
use Rattle.slate_state_calls.proofs.Ending.{refused}
use Rattle.slate_state_calls.specs.Commits.{manifest_put}
use Rattle.slate_state_calls.specs.Opening.{raising}
use Rattle.slate_txn_log.specs.declared.log_kind.LogKind.TheVariants as kinds
use Rattle.slate_layout_manifests.specs.Decoding.{decoded_manifest}
use Rattle.slate_state_calls.proofs.open_phase.OpenPhase.raising_on.Goals as goal

pub returns-else-is_memory-clause-goes : goal.returns-else-is_memory-clause-goes
returns-else-is_memory-clause-goes c =
    let p = c.args.changing in
    let out = work_goes kinds.Manifest decoded_manifest (manifest_put p.change) c.args.now p.work c.args.answer.now in
    let goes = rw (to_z-of_z w64 c.args.now c.ranges.now, c.manifests.ensures.log, c.in-Done-Err.field-0-is) at c.in-Done-Err.ensures.goes in
    let same = refused out p.work c.goes_on.new.self.work c.in-Done-Err.e c.is_memory.result goes c.is_memory.ensures c.if-is_memory.false in
    inl (rw c.stand-else-is_memory.ensures (ap (raising p) same))
