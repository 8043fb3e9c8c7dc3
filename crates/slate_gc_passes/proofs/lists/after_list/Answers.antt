use Rattle.std.proofs.Common.{w64}
use Rattle.std.proofs.lemmas.Int.{to_z-of_z}
use Rattle.slate_gc_passes.proofs.lists.after_list.Goals as goal

pub returns-in-Found-clause-goes : goal.returns-in-Found-clause-goes
returns-in-Found-clause-goes g c =
    let goes = rw (to_z-of_z w64 c.args.now c.ranges.now, c.as_slice.ensures) at c.after_found.ensures.goes in
    rw c.in-Found.is goes
