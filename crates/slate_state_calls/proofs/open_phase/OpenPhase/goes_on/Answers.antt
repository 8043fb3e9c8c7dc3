use Rattle.std.proofs.Common.{sym, w64}
use Rattle.std.proofs.lemmas.Int.{to_z-of_z}
use Rattle.slate_state_calls.proofs.open_phase.OpenPhase.goes_on.Goals as goal

pub returns-in-OnRecord-clause-goes : goal.returns-in-OnRecord-clause-goes
returns-in-OnRecord-clause-goes c = rw (sym c.in-OnRecord.ensures.value) (rw (to_z-of_z w64 c.args.now c.ranges.now) at c.record_on.ensures.goes)
