-- What a compaction's sources name, and whether a tree has them.
use Rattle.std.specs.Prelude.{ℕ, ◌&&◌, ◌||◌, ◌==◌, not, Bool, true, false, List, [], ◌∷◌, map, if◌then◌else◌}
use Rattle.std.specs.List.{list_all, list_any}
use Rattle.slate_model.specs.declared.lsm_tree_state.LsmTreeState.{LsmTreeState}
use Rattle.slate_model_records.specs.Retaining.{has_id}
use Rattle.slate_model_records.specs.declared.source_id.SourceId.{SourceId}
use Rattle.slate_model_records.specs.declared.source_id.SourceId.TheVariants.{SstView, SortedRun}
use Rattle.slate_model_tables.specs.SortedRuns.{Run}
use Rattle.slate_model_tables.specs.Views.{View}

-- the views that sources name
abbrev pub source_views : List SourceId → List (ℕ × ℕ)
source_views [] = []
source_views (SstView id ∷ sources) = id ∷ source_views sources
source_views (SortedRun n ∷ sources) = source_views sources

-- the runs that they name
abbrev pub source_runs : List SourceId → List ℕ
source_runs [] = []
source_runs (SstView id ∷ sources) = source_runs sources
source_runs (SortedRun n ∷ sources) = n ∷ source_runs sources

-- whether numbers have this one
abbrev pub has_number : List ℕ → ℕ → Bool
has_number numbers n = list_any (λ m. m == n) numbers

-- the ids of views
abbrev pub view_ids : List View → List (ℕ × ℕ)
view_ids views = map (λ v. v.id) views

-- the numbers of runs
abbrev pub run_ids : List Run → List ℕ
run_ids runs = map (λ r. r.id) runs

-- whether a tree has all the views that sources name
abbrev pub views_stand : List SourceId → LsmTreeState → Bool
views_stand sources tree = list_all (has_id (view_ids tree.l0)) (source_views sources)

-- whether it has all the runs
abbrev pub runs_stand : List SourceId → LsmTreeState → Bool
runs_stand sources tree = list_all (has_number (run_ids tree.compacted)) (source_runs sources)

-- whether it has all that they name
abbrev pub all_stand : List SourceId → LsmTreeState → Bool
all_stand sources tree = views_stand sources tree && runs_stand sources tree

-- whether a test takes all views from here on, where it took one before; where it took none, from the first that it takes
abbrev pub takes_on : Bool → (ℕ × ℕ → Bool) → List View → Bool
takes_on begun takes [] = true
takes_on begun takes (v ∷ views) = if begun && not (takes v.id) then false else takes_on (begun || takes v.id) takes views

-- whether the views that a test takes are a suffix
abbrev pub is_suffix : (ℕ × ℕ → Bool) → List View → Bool
is_suffix takes views = takes_on false takes views
