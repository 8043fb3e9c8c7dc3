use Rattle.std.proofs.Common.{◌≡◌, ◌++◌, map, take}
use Rattle.slate_model_records.specs.declared.source_id.SourceId.TheVariants.{SstView}
use Rattle.slate_script_databases.proofs.opening_record.push_views.Given as goal

-- the views so far are there
abbrev pub invariant-loop-view : goal.invariant-loop-view
invariant-loop-view l = l.sources ≡ l.fn.sources ++ map SstView (take l.view-index l.views)
