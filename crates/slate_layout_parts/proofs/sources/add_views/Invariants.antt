use Rattle.std.proofs.Common.{◌≡◌, ◌++◌, drop, map}
use Rattle.slate_model_records.specs.declared.source_id.SourceId.TheVariants.{SstView}
use Rattle.slate_layout_parts.proofs.sources.add_views.Given as goal

abbrev pub invariant-loop-view : goal.invariant-loop-view
invariant-loop-view l = l.sources ++ map SstView (drop l.view-index l.views) ≡ l.fn.sources ++ map SstView l.views
