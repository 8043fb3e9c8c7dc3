use Rattle.std.proofs.Common.{refl, w64}
use Rattle.std.proofs.lemmas.Int.{to_z-of_z}
use Rattle.slate_state_calls.specs.Opening.{open_goes}
use Rattle.slate_cluster_protocol.specs.Rows.{open_on}
use Rattle.slate_cluster_protocol.specs.declared.work.Work.TheVariants.{Opening}
use Rattle.slate_cluster_steps.proofs.Goings.{refused_on}
use Rattle.slate_cluster_steps.proofs.steps.open_on.Goals as goal

pub returns-in-Done-Err-clause-ok : goal.returns-in-Done-Err-clause-ok
returns-in-Done-Err-clause-ok c =
    let facts = c.args.facts.now in
    let out = open_goes c.args.now c.args.phase.now c.args.answer.now in
    let goes = rw (to_z-of_z w64 c.args.now c.ranges.now, c.in-Done-Err.field-0-is) at c.in-Done-Err.ensures.goes in
    refused_on (open_on facts c.args.db) out c.args.phase.now c.goes_on.new.self c.in-Done-Err.e facts (Opening c.args.db c.goes_on.new.self) c.refused.result refl goes c.refused.ensures
