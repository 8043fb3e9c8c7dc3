use Rattle.std.proofs.Common.{rules, ◌∙◌, ap}
use Rattle.slate_model_tables.specs.SortedRuns.{spans_meet}
use Rattle.slate_model_tables.proofs.Spans.{spans_by}
use Rattle.slate_model_tables.proofs.sorted_run.SortedRun.overlaps_range.Goals as goal

pub returns : goal.returns
returns c =
    let views = c.sst_views-views.result.now in
    let e = spans_by views c.in-Some-Some.first.now c.in-Some-Some.last.now c.args.range.now c.in-Some-Some.ensures.value c.in-Some-Some.ensures'.value ∙ ap (λ v. spans_meet v c.args.range.now) c.sst_views-views.ensures in
    search (rules, e)
