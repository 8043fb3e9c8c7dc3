use Rattle.std.proofs.Common.{w64}
use Rattle.std.proofs.lemmas.Int.{to_z-of_z}
use Rattle.slate_gc.proofs.setup.Setup.run_pass.Goals as goal

pub returns : goal.returns
returns g c = rw c.as_ref.ensures.value at (rw c.as_ref-2.ensures.value at (rw (to_z-of_z w64 c.args.moment c.ranges.moment) at c.run_pass.ensures))
