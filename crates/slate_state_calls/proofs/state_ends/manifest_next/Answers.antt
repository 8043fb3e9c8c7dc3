use Rattle.std.proofs.Common.{sym, w64, ◌∙◌}
use Rattle.std.proofs.lemmas.Int.{to_z-of_z}
use Rattle.slate_state_calls.proofs.state_ends.manifest_next.Goals as goal

pub returns-in-Some-2-clause-leads : goal.returns-in-Some-2-clause-leads
returns-in-Some-2-clause-leads c =
    let found = sym c.in_ok-manifest_in-in-Keep.ensures ∙ c.in-Some-2.is in
    rw (c.in-Keep.is, found) (rw (to_z-of_z w64 c.args.now c.ranges.now) at c.merge.ensures.leads)
