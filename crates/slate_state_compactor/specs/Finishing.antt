-- What the end of a compaction makes of a tree.
use Rattle.std.specs.Prelude.{ℕ, ◌&&◌, ◌==◌, nat_lt, not, Bool, false, List, [], ◌∷◌, map, Option, Some, None, option_map, if◌then◌else◌}
use Rattle.std.specs.List.{filter, find, list_any}
use Rattle.std.specs.Option.{option_or}
use Rattle.slate_model.specs.declared.lsm_tree_state.LsmTreeState.{LsmTreeState}
use Rattle.slate_model_records.specs.Compactions.{sources_of}
use Rattle.slate_model_records.specs.Retaining.{has_id}
use Rattle.slate_model_records.specs.declared.compaction_spec.CompactionSpec.{CompactionSpec}
use Rattle.slate_model_records.specs.declared.compaction_spec.CompactionSpec.TheVariants.{Tiered, DrainSegment}
use Rattle.slate_model_tables.specs.SortedRuns.{Run}
use Rattle.slate_model_tables.specs.Views.{View}
use Rattle.slate_model_tables.specs.declared.ss_table_handle.SsTableHandle.{SsTableHandle}
use Rattle.slate_model_tables.specs.declared.ss_table_id.SsTableId.{SsTableId}
use Rattle.slate_model_tables.specs.declared.ss_table_id.SsTableId.TheVariants.{Wal, Compacted}
use Rattle.slate_state_compactor.specs.Sources.{source_views, source_runs, has_number, all_stand, is_suffix}

-- ---- the run that it writes

-- the id of an output's own view: that of the table; a file of the write-ahead log, which is no output that has bytes, has none of its own
abbrev pub output_id : SsTableId → ℕ × ℕ
output_id (Compacted id) = id
output_id (Wal number) = (0, 0)

-- an output's own view of all of it
abbrev pub output_view : SsTableHandle → View
output_view sst = record { id = output_id sst.id; sst = sst; visible = None }

-- the run of a number that has these outputs
abbrev pub output_run : ℕ → List SsTableHandle → Run
output_run n outputs = record { id = n; views = map output_view outputs }

-- runs with one more at its place: the numbers descend
abbrev pub with_run : Run → List Run → List Run
with_run run [] = run ∷ []
with_run run (r ∷ runs) = if nat_lt r.id run.id then run ∷ r ∷ runs else r ∷ with_run run runs

-- the runs that a compaction adds to those that stay
abbrev pub with_written : CompactionSpec → List SsTableHandle → List Run → List Run
with_written (Tiered segment sources destination) outputs runs = with_run (output_run destination outputs) runs
with_written (DrainSegment segment sources) outputs runs = runs

-- ---- what stays

-- the views that a test doesn't take
abbrev pub views_left : (ℕ × ℕ → Bool) → List View → List View
views_left takes views = filter (λ v. not (takes v.id)) views

-- the runs that a test doesn't take
abbrev pub runs_left : (ℕ → Bool) → List Run → List Run
runs_left takes runs = filter (λ r. not (takes r.id)) runs

-- the newest view that a test takes
abbrev pub newest_taken : (ℕ × ℕ → Bool) → List View → Option (ℕ × ℕ)
newest_taken takes views = option_map (λ v. v.id) (find (λ v. takes v.id) views)

-- whether a run that stays has the number of the run that a compaction writes
abbrev pub collides : CompactionSpec → List Run → Bool
collides (Tiered segment sources destination) left = list_any (λ r. r.id == destination) left
collides (DrainSegment segment sources) left = false

-- ---- the tree

-- the tree without the views that a test takes, and with these runs: where a view is taken, the newest of these is the view marker
abbrev pub tree_with : (ℕ × ℕ → Bool) → List Run → LsmTreeState → LsmTreeState
tree_with view runs tree = record tree {
  last_compacted_l0_sst_view_id = option_or (newest_taken view tree.l0) tree.last_compacted_l0_sst_view_id;
  l0 = views_left view tree.l0;
  compacted = runs;
}

-- the same, of the runs that a test doesn't take, with the one that the compaction writes
abbrev pub tree_without : (ℕ × ℕ → Bool) → (ℕ → Bool) → CompactionSpec → List SsTableHandle → LsmTreeState → LsmTreeState
tree_without view run spec outputs tree = tree_with view (with_written spec outputs (runs_left run tree.compacted)) tree

-- whether a tree has the sources, the views among them are the oldest of its L0, and no run that stays has the number that is written
abbrev pub are_good : (ℕ × ℕ → Bool) → (ℕ → Bool) → CompactionSpec → LsmTreeState → Bool
are_good view run spec tree = all_stand (sources_of spec) tree && (is_suffix view tree.l0 && not (collides spec (runs_left run tree.compacted)))

-- the tree once a compaction is finished with these outputs, by tests of what it takes; none where its sources are bad
abbrev pub finished_by : (ℕ × ℕ → Bool) → (ℕ → Bool) → CompactionSpec → List SsTableHandle → LsmTreeState → Option LsmTreeState
finished_by view run spec outputs tree = if are_good view run spec tree then Some (tree_without view run spec outputs tree) else None

-- the same: it takes what its sources name
abbrev pub finished_tree : CompactionSpec → List SsTableHandle → LsmTreeState → Option LsmTreeState
finished_tree spec outputs tree = finished_by (has_id (source_views (sources_of spec))) (has_number (source_runs (sources_of spec))) spec outputs tree
