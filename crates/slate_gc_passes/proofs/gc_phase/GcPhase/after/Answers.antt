use Rattle.std.proofs.Common.{w64}
use Rattle.std.proofs.lemmas.Int.{to_z-of_z}
use Rattle.slate_gc_passes.proofs.Collected.{collected}
use Rattle.slate_gc_passes.specs.GcPhase.{moment_of_pass}
use Rattle.slate_gc_passes.proofs.gc_phase.GcPhase.after.Goals as goal

pub returns-in-Collecting-clause-goes : goal.returns-in-Collecting-clause-goes
returns-in-Collecting-clause-goes g c =
    let now = rw (to_z-of_z w64 c.args.moment c.ranges.moment) at c.moment_of-now.ensures in
    let same = to_z-of_z w64 c.moment_of-now.result (record { sfits = c.moment_of-now.type_inv }) in
    let after = rw (same, now) at c.moment_after.ensures in
    let goes = rw (same, now) at c.goes_on-step.ensures.goes in
    rw c.in-Collecting.is (collected c.in-Collecting.at _ (moment_of_pass c.in-Collecting.at c.args.moment) _ c.in-Collecting.phase c.goes_on-step.new.self c.goes_on-step.result after goes)
