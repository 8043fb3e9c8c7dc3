-- The trees of a database, and the views in them.
use Rattle.std.specs.Prelude.{List, ◌∷◌, ◌++◌, map}
use Rattle.std.specs.List.{flat_map}
use Rattle.slate_model_tables.specs.declared.ss_table_id.SsTableId.{SsTableId}
use Rattle.slate_model.specs.declared.lsm_tree_state.LsmTreeState.{LsmTreeState}
use Rattle.slate_model_tables.specs.Views.{View}
use Rattle.slate_model_tables.specs.SortedRuns.{Run}
use Rattle.slate_model.specs.Segments.{Prefixed}
use Rattle.slate_model.specs.Cores.{Core}

-- the trees of segments
abbrev pub segment_trees : List Prefixed → List LsmTreeState
segment_trees segments = map (λ s. s.tree) segments

-- the trees of a database: the root, then those of the segments
abbrev pub trees_of : Core → List LsmTreeState
trees_of core = core.tree ∷ segment_trees core.segments

-- the views of these runs
abbrev pub views_of_runs : List Run → List View
views_of_runs runs = flat_map (λ run. run.views) runs

-- the views of a tree: of the tables that flushes wrote, the newest first, then of the runs
abbrev pub views_of_tree : LsmTreeState → List View
views_of_tree tree = tree.l0 ++ views_of_runs tree.compacted

-- the views of the trees of these segments
abbrev pub views_of_segments : List Prefixed → List View
views_of_segments segments = flat_map views_of_tree (segment_trees segments)

-- the views of all trees
abbrev pub views_of : Core → List View
views_of core = flat_map views_of_tree (trees_of core)

-- the tables of these views
abbrev pub tables_of_views : List View → List SsTableId
tables_of_views views = map (λ v. v.sst.id) views

-- the tables of all trees
abbrev pub tables_of : Core → List SsTableId
tables_of core = tables_of_views (views_of core)
