-- One turn of a walk along two lists of segments in the order of their prefixes.
use Rattle.std.specs.Prelude.{◌≡◌, Bool, true, List, [], ◌∷◌, Option, Some, None, Result, Ok, Err, if◌then◌else◌}
use Rattle.slate_ids.specs.Keys.{key_lt}
use Rattle.slate_ids.specs.declared.error.SlateDBError.{SlateDBError}
use Rattle.slate_ids.specs.declared.error.SlateDBError.TheVariants.{SegmentWithoutWriter}
use Rattle.slate_model.specs.Cores.{empty_tree}
use Rattle.slate_model.specs.Segments.{Prefixed}
use Rattle.slate_state_merges.specs.Merging.{merged}
use Rattle.slate_state_merges.specs.SegmentMerging.{holds_tables}
use Rattle.slate_state_merges.specs.declared.side_by_side.Turn.{Turn}
use Rattle.slate_state_merges.specs.declared.side_by_side.Turn.TheVariants.{Writer, Compactor, Both}

-- whether a segment stands before the first of others
abbrev pub stands_first : Prefixed → List Prefixed → Bool
stands_first s [] = true
stands_first s (t ∷ others) = key_lt s.prefix t.prefix

-- a turn takes the first of one side, where it stands before the other side's first, or of both, where their prefixes are one
abbrev pub Takes : Turn → List Prefixed → List Prefixed → List Prefixed → List Prefixed → Type 0
Takes (Writer s) writer compactor writer_left compactor_left = (writer ≡ s.now ∷ writer_left) × (compactor ≡ compactor_left) × (stands_first s.now compactor ≡ true)
Takes (Compactor s) writer compactor writer_left compactor_left = (compactor ≡ s.now ∷ compactor_left) × (writer ≡ writer_left) × (stands_first s.now writer ≡ true)
Takes (Both s t) writer compactor writer_left compactor_left = (writer ≡ s.now ∷ writer_left) × (compactor ≡ t.now ∷ compactor_left) × (s.now.prefix ≡ t.now.prefix)

-- the merge of the trees of a turn, where a side that has none counts as one without tables
abbrev pub turn_merged : Turn → Prefixed
turn_merged (Writer s) = record s.now { tree = merged s.now.tree empty_tree }
turn_merged (Compactor s) = record s.now { tree = merged empty_tree s.now.tree }
turn_merged (Both s t) = record s.now { tree = merged s.now.tree t.now.tree }

-- what a compactor makes of a turn: the merge, nothing where the writer has no segment, or a refusal where that one holds tables
abbrev pub followed : Turn → Result (Option Prefixed) SlateDBError
followed (Writer s) = Ok (Some (turn_merged (Writer s)))
followed (Compactor s) = if holds_tables s.now.tree then Err (SegmentWithoutWriter s.now.prefix) else Ok None
followed (Both s t) = Ok (Some (turn_merged (Both s t)))

-- a segment, where its tree holds tables
abbrev pub kept : Prefixed → List Prefixed
kept s = if holds_tables s.tree then s ∷ [] else []
