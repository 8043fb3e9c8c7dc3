use Rattle.std.proofs.Common.{ap, refl, w64}
use Rattle.std.proofs.lemmas.Int.{to_z-of_z}
use Rattle.slate_gc_passes.specs.GcPhase.{gc_goes}
use Rattle.slate_cluster_protocol.specs.Rows.{pass_on}
use Rattle.slate_cluster_protocol.specs.Works.{pass_ways}
use Rattle.slate_cluster_protocol.specs.declared.work.Work.TheVariants.{Pass}
use Rattle.slate_cluster_steps.proofs.Goings.{refused_on}
use Rattle.slate_cluster_steps.proofs.steps.pass_on.Goals as goal

pub returns-in-Again-clause-ok : goal.returns-in-Again-clause-ok
returns-in-Again-clause-ok c =
    let goes = rw (to_z-of_z w64 c.args.now c.ranges.now) at c.in-Again.ensures.goes in
    ap (pass_on c.args.facts.now c.args.db c.args.settings.now c.args.filter.now) goes

pub returns-in-Done-Err-clause-ok : goal.returns-in-Done-Err-clause-ok
returns-in-Done-Err-clause-ok c =
    let facts = c.args.facts.now in
    let settings = c.args.settings.now in
    let filter = c.args.filter.now in
    let out = gc_goes (pass_ways filter) settings c.args.now c.args.phase.now c.args.answer.now in
    let goes = rw (to_z-of_z w64 c.args.now c.ranges.now, c.in-Done-Err.field-0-is) at c.in-Done-Err.ensures.goes in
    refused_on (pass_on facts c.args.db settings filter) out c.args.phase.now c.goes_on.new.self c.in-Done-Err.e facts (Pass c.args.db settings filter c.goes_on.new.self) c.refused.result refl goes c.refused.ensures
