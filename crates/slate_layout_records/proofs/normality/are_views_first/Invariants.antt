use Rattle.std.proofs.Common.{◌≡◌, drop}
use Rattle.std.specs.Prelude.{if◌then◌else◌}
use Rattle.std.specs.List.{list_all}
use Rattle.slate_layout_records.specs.NormalRecords.{is_run, are_views_first}
use Rattle.slate_layout_records.proofs.normality.are_views_first.Given as goal

-- the sources that are left decide: after a run there are only runs
abbrev pub invariant-loop-source : goal.invariant-loop-source
invariant-loop-source l = (if l.after_run then list_all is_run (drop l.source-index l.sources) else are_views_first (drop l.source-index l.sources)) ≡ are_views_first l.sources
