-- What is left of a walk along the views of a database.
use Rattle.std.specs.Prelude.{ℕ, ◌+◌, List, [], ◌∷◌, ◌++◌, length}
use Rattle.slate_model_tables.specs.Views.{View}
use Rattle.slate_model.specs.declared.lsm_tree_state.LsmTreeState.{LsmTreeState}
use Rattle.slate_model.specs.declared.views.Parts.{Parts}
use Rattle.slate_model.specs.Segments.{Prefixed}
use Rattle.slate_model.specs.Trees.{views_of_runs, views_of_segments}

-- the views that are left
abbrev pub views_left : Parts → List View
views_left p = p.next.now ++ (p.flushed.now ++ (views_of_runs p.runs.now ++ views_of_segments p.segments.now))

-- how many parts a tree has at most: one for each view of L0 and for each run
abbrev pub parts_of_tree : LsmTreeState → ℕ
parts_of_tree tree = length tree.l0 + length tree.compacted

-- the same of the trees of segments, and one for each segment
abbrev pub parts_of_segments : List Prefixed → ℕ
parts_of_segments [] = 0
parts_of_segments (s ∷ segments) = 1 + (parts_of_tree s.tree + parts_of_segments segments)

-- how many parts are left at most
abbrev pub parts_left : Parts → ℕ
parts_left p = (length p.flushed.now + length p.runs.now) + parts_of_segments p.segments.now
