-- The trees of a core with another tree at a prefix that has one.
use Rattle.std.specs.Prelude.{ℕ, ◌==◌, Bool, true, false, List, length, if◌then◌else◌}
use Rattle.std.proofs.Common.{◌≡◌, refl}
use Rattle.slate_state_merges.specs.LocalTrees.{trees_of, with_tree}
use Rattle.slate_model.specs.Cores.{Core}
use Rattle.slate_model.specs.Insertion as insertion
use Rattle.slate_model.specs.declared.lsm_tree_state.LsmTreeState.{LsmTreeState}

pub replaced : (prefix : List ℕ) (tree : LsmTreeState) (core : Core) → trees_of (insertion.with_tree prefix core tree) ≡ with_tree prefix tree (trees_of core)
replaced prefix tree core = by (length prefix == 0)
  where
    by : (b : Bool) → trees_of (if b then record core { tree = tree } else record core { segments = insertion.placed prefix tree core.segments }) ≡ (if b then record (trees_of core) { tree = tree } else record (trees_of core) { segments = insertion.placed prefix tree core.segments })
    by true = refl
    by false = refl
