use Rattle.slate_gc.specs.Collector.{at_once}
use Rattle.slate_gc.specs.Options.{all_passes, asked}
use Rattle.slate_gc_complete.proofs.Passes as passes
use Rattle.slate_gc_complete.proofs.reports.report_ends.Goals as goal

pub returns-clause-once : goal.returns-clause-once
returns-clause-once c = λ setup tries moment old new before after report plain given named some ran s serves ready.
    passes.report_ends setup plain given named tries some (asked setup.options (at_once moment all_passes)) old new before ran.moved report ran.passes s serves ready

pub returns-clause-run : goal.returns-clause-run
returns-clause-run c = λ setup tries turns first last old new before after end report plain given named some ran s serves ready.
    passes.report_ends setup plain given named tries some (asked setup.options ran.taken) old new before after report ran.ticks.passes s serves ready
