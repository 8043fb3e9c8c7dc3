use Rattle.std.proofs.Common.{w64}
use Rattle.std.proofs.lemmas.Int.{to_z-of_z}
use Rattle.slate_gc_passes.proofs.gc_phase.GcPhase.goes_on.Goals as goal

pub returns-clause-goes : goal.returns-clause-goes
returns-clause-goes g c = rw (to_z-of_z w64 c.args.moment c.ranges.moment, c.replace.ensures.value) at c.after-phase.ensures.goes
