use Rattle.std.proofs.Common.{w64}
use Rattle.std.proofs.lemmas.Int.{to_z-of_z}
use Rattle.slate_gc_passes.proofs.pass_phase.PassPhase.after.Goals as goal

pub returns-in-Listing-clause-goes : goal.returns-in-Listing-clause-goes
returns-in-Listing-clause-goes g c =
    let goes = rw (to_z-of_z w64 c.args.now c.ranges.now) at c.after_list.ensures.goes in
    rw c.in-Listing.is goes
