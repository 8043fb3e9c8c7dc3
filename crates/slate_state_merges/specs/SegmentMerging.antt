-- The segments of a writer and of a compactor put together, by prefix.
use Rattle.std.specs.Prelude.{◌≡◌, ℕ, ◌==◌, ◌&&◌, Bool, true, not, List, [], ◌∷◌, length, map, filter, Option, Some, None, is_some, Result, Ok, Err, if◌then◌else◌}
use Rattle.std.specs.List.{find}
use Rattle.slate_ids.specs.declared.error.SlateDBError.{SlateDBError}
use Rattle.slate_ids.specs.declared.error.SlateDBError.TheVariants.{SegmentWithoutWriter}
use Rattle.slate_model.specs.declared.lsm_tree_state.LsmTreeState.{LsmTreeState}
use Rattle.slate_model.specs.Segments.{Prefixed, ascend_from, segment_at}
use Rattle.slate_model.specs.Insertion.{tree_in, or_empty, placed}
use Rattle.slate_state_merges.specs.Merging.{merged}

-- whether prefixes ascend strictly; the first may be empty
abbrev pub ascend : List Prefixed → Bool
ascend [] = true
ascend (s ∷ segments) = ascend_from s.prefix segments

-- the same as a fact
abbrev pub Ascends : List Prefixed → Type 0
Ascends segments = ascend segments ≡ true

-- whether a tree holds tables: in L0, or in runs
abbrev pub holds_tables : LsmTreeState → Bool
holds_tables tree = not ((length tree.l0 == 0) && (length tree.compacted == 0))

-- a writer's segment, merged with the compactor's tree of its prefix, or with one without tables
abbrev pub merged_with : List Prefixed → Prefixed → Prefixed
merged_with compactor s = record s { tree = merged s.tree (or_empty (tree_in s.prefix compactor)) }

-- ---- what a compactor makes of a writer's segments

-- whether a compactor's segment holds tables, and the writer has none of its prefix
abbrev pub is_orphan : List Prefixed → Prefixed → Bool
is_orphan writer s = holds_tables s.tree && not (is_some (segment_at s.prefix writer))

-- these segments, unless there is an orphan
abbrev pub unless_orphan : Option Prefixed → List Prefixed → Result (List Prefixed) SlateDBError
unless_orphan None segments = Ok segments
unless_orphan (Some s) segments = Err (SegmentWithoutWriter s.prefix)

-- a compactor's segments merged from a writer's: each of the writer's, merged; refused by the first orphan
abbrev pub from_writer : List Prefixed → List Prefixed → Result (List Prefixed) SlateDBError
from_writer compactor writer = unless_orphan (find (is_orphan writer) compactor) (map (merged_with compactor) writer)

-- ---- what a writer makes of a compactor's segments

-- these segments, and at each prefix of others that they lack one without tables, in its place
abbrev pub with_prefixes : List Prefixed → List Prefixed → List Prefixed
with_prefixes [] segments = segments
with_prefixes (s ∷ others) segments = placed s.prefix (or_empty (tree_in s.prefix segments)) (with_prefixes others segments)

-- a writer's segments merged from a compactor's: one for each prefix of either, merged; those whose trees hold no tables go
abbrev pub from_compactor : List Prefixed → List Prefixed → List Prefixed
from_compactor writer compactor = filter (λ s. holds_tables s.tree) (map (merged_with compactor) (with_prefixes compactor writer))

-- a tree that holds tables
abbrev pub kept_tree : LsmTreeState → Option LsmTreeState
kept_tree tree = if holds_tables tree then Some tree else None

-- at each prefix stands the merge of what either side has there, with no tables where it has none; and nothing where the merge holds none
abbrev pub IsMergeByPrefix : List Prefixed → List Prefixed → List Prefixed → Type 0
IsMergeByPrefix writer compactor segments = (prefix : List ℕ) → tree_in prefix segments ≡ kept_tree (merged (or_empty (tree_in prefix writer)) (or_empty (tree_in prefix compactor)))
