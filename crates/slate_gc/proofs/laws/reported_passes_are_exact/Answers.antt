use Rattle.slate_gc.proofs.ExactPasses.{report_exact}
use Rattle.slate_gc.proofs.laws.reported_passes_are_exact.Goals as goal
use Rattle.slate_gc.specs.Collector.{at_once}
use Rattle.slate_gc.specs.Options.{all_passes, asked}

pub returns-clause-once : goal.returns-clause-once
returns-clause-once c = λ setup tries moment old new before after report ran. report_exact setup tries (asked setup.options (at_once moment all_passes)) old new before ran.moved report ran.passes

pub returns-clause-run : goal.returns-clause-run
returns-clause-run c = λ setup tries turns first last old new before after end report ran. report_exact setup tries (asked setup.options ran.taken) old new before after report ran.ticks.passes
