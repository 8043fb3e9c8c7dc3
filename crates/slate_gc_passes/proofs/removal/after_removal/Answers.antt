use Rattle.std.proofs.Common.{w64}
use Rattle.std.proofs.lemmas.Int.{to_z-of_z}
use Rattle.slate_gc_passes.proofs.Collected.{refused}
use Rattle.slate_gc_passes.proofs.removal.after_removal.Goals as goal

pub returns-in-Done-Err-clause-goes : goal.returns-in-Done-Err-clause-goes
returns-in-Done-Err-clause-goes g c =
    let goes = rw (c.in-Done-Err.field-0-is, c.manifest_log-manifests.ensures.log, c.manifest_log-manifests.ensures.codec, to_z-of_z w64 c.args.now c.ranges.now) at c.in-Done-Err.ensures.goes in
    refused c.args.pass _ c.args.work c.goes_on-step.new.self c.in-Done-Err.e goes
