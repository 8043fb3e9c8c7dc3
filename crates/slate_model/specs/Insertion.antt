-- The tree of a prefix, and a tree put in its place.
use Rattle.std.specs.Prelude.{ℕ, zero, suc, ◌==◌, List, [], ◌∷◌, length, Option, Some, None, option_map, bytes_eq, if◌then◌else◌}
use Rattle.slate_ids.specs.Keys.{key_lt}
use Rattle.slate_ids.specs.declared.error.SlateDBError.{SlateDBError}
use Rattle.slate_model.specs.declared.lsm_tree_state.LsmTreeState.{LsmTreeState}
use Rattle.slate_model.specs.Segments.{Prefixed, segment_at}
use Rattle.slate_model.specs.Cores.{Core, empty_tree}
use Rattle.slate_model.specs.Nesting.{nesting_refusal}

-- the tree of the segment of exactly this prefix
abbrev pub tree_in : List ℕ → List Prefixed → Option LsmTreeState
tree_in prefix segments = option_map (λ s. s.tree) (segment_at prefix segments)

-- the tree of a prefix: the root of the empty one, and else that of its segment
abbrev pub tree_for : List ℕ → Core → Option LsmTreeState
tree_for prefix core = if length prefix == 0 then Some core.tree else tree_in prefix core.segments

-- a tree; one without tables, where there is none
abbrev pub or_empty : Option LsmTreeState → LsmTreeState
or_empty (Some tree) = tree
or_empty None = empty_tree

-- the segments with this tree at the prefix: in place of that of its own segment, or in a new one before those that stand above
abbrev pub placed : List ℕ → LsmTreeState → List Prefixed → List Prefixed
placed prefix tree [] = record { prefix = prefix; tree = tree } ∷ []
placed prefix tree (s ∷ segments) = if key_lt s.prefix prefix then s ∷ placed prefix tree segments else record { prefix = prefix; tree = tree }
    ∷ (if bytes_eq s.prefix prefix then segments else s ∷ segments)

-- the core with this tree at the prefix: the root's for the empty one
abbrev pub with_tree : List ℕ → Core → LsmTreeState → Core
with_tree prefix core tree = if length prefix == 0 then record core { tree = tree } else record core { segments = placed prefix tree core.segments }

-- why a prefix can't have a tree; the root always can
abbrev pub insertion_refusal : List ℕ → Core → Option SlateDBError
insertion_refusal prefix core = if length prefix == 0 then None else nesting_refusal prefix core.segments

-- the tree of the segment at a place
abbrev pub tree_at : ℕ → List Prefixed → Option LsmTreeState
tree_at i [] = None
tree_at zero (s ∷ segments) = Some s.tree
tree_at (suc i) (s ∷ segments) = tree_at i segments

-- the segments with another tree at a place
abbrev pub with_tree_at : ℕ → List Prefixed → LsmTreeState → List Prefixed
with_tree_at i [] tree = []
with_tree_at zero (s ∷ segments) tree = record s { tree = tree } ∷ segments
with_tree_at (suc i) (s ∷ segments) tree = s ∷ with_tree_at i segments tree
