use Rattle.std.proofs.Common.{◌≡◌, ◌++◌, drop, map}
use Rattle.slate_model_records.specs.declared.source_id.SourceId.TheVariants.{SstView}
use Rattle.slate_layout_parts.specs.RecordParts.{views_in}
use Rattle.slate_layout_records.proofs.record_normal.add_views.Given as goal

abbrev pub invariant-loop-source : goal.invariant-loop-source
invariant-loop-source l = l.made ++ map SstView (views_in (drop l.source-index l.sources)) ≡ l.fn.made ++ map SstView (views_in l.sources)
