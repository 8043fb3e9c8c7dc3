use Rattle.std.proofs.Common.{w64}
use Rattle.std.proofs.lemmas.Int.{to_z-of_z}
use Rattle.slate_state_calls.proofs.commits.record_put.Goals as goal

pub returns-clause-begun : goal.returns-clause-begun
returns-clause-begun c = rw (to_z-of_z w64 c.args.now c.ranges.now) at c.begun.ensures.begun
