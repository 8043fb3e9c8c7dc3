use Rattle.std.proofs.Common.{rules}
use Rattle.std.proofs.lemmas.List.Sorted.{IsPartitionPoint-from_clause}
use Rattle.slate_ids.specs.Keys.{is_ordered}
use Rattle.slate_model_tables.specs.Views.{View, effective_range}
use Rattle.slate_model_tables.proofs.Covers.{start_earlier}
use Rattle.slate_model_tables.proofs.covering.ends.Goals as goal

pub returns : goal.returns
returns c =
    let views = c.args.views.now in
    let r = c.args.range.now in
    let point = IsPartitionPoint-from_clause (λ (v : View). is_ordered (effective_range v).start r.end) views c.partition_point-to.result c.partition_point-to.ensures.partitioned (λ i j d l m o. start_earlier r.end views (record { shown = c.requires.shown; ascending = c.requires.ascending }) i j d l m o) (λ a q f k. search rules) in
    record {
      within = c.partition_point-to.ensures.bound;
      started = point.0;
      not_started = point.1;
      passed = c.first_reached-from.ensures.passed;
      reached = c.first_reached-from.ensures.reached;
    }
