-- The bytes of trees and segments, whose views are of the tables of their manifest.
use Rattle.std.specs.Prelude.{ℕ, List, Option, Some, None}
use Rattle.slate_model_tables.specs.declared.ss_table_handle.SsTableHandle.{SsTableHandle}
use Rattle.slate_model_tables.specs.Views.{View}
use Rattle.slate_model_tables.specs.SortedRuns.{Run}
use Rattle.slate_model.specs.declared.lsm_tree_state.LsmTreeState.{LsmTreeState}
use Rattle.slate_model.specs.Segments.{Prefixed}
use Rattle.slate_layout_parts.specs.Bytes.{counted_bytes, option_bytes, list_bytes, pair_bytes}
use Rattle.slate_layout_parts.specs.Reading.{counted_in, option_in, list_in, pair_in, made_in}
use Rattle.slate_layout_parts.specs.Reads.{OptionFits, ListFits, PairFits, MadeFits}
use Rattle.slate_layout_parts.specs.Texts.{IsShort, id_bytes, id_in, IdFits}
use Rattle.slate_layout_parts.specs.ViewParts.{RunFits, ViewFits, run_bytes, run_in, view_bytes, view_in}

-- ---- trees

-- the marker of views, the flushed tables' views, and the runs; the marker of tables isn't kept
abbrev pub TreeParts : Type 0
TreeParts = Option (ℕ × ℕ) × (List View × List Run)

abbrev pub tree_of : TreeParts → Option LsmTreeState
tree_of p = Some (record { last_compacted_l0_sst_view_id = p.0; last_compacted_l0_sst_id = None; l0 = p.1.0; compacted = p.1.1 })

abbrev pub tree_parts : LsmTreeState → TreeParts
tree_parts t = (t.last_compacted_l0_sst_view_id, (t.l0, t.compacted))

abbrev pub tree_bytes : LsmTreeState → List ℕ
tree_bytes t = pair_bytes (option_bytes id_bytes) (pair_bytes (list_bytes view_bytes) (list_bytes run_bytes)) (tree_parts t)

abbrev pub tree_in : List SsTableHandle → List ℕ → Option (LsmTreeState × List ℕ)
tree_in tables = made_in tree_of (pair_in (option_in id_in) (pair_in (list_in (view_in tables) 8) (list_in (run_in tables) 4)))

abbrev pub TreeFits : List SsTableHandle → LsmTreeState → Type 0
TreeFits tables = MadeFits tree_of tree_parts (PairFits (OptionFits IdFits) (PairFits (ListFits (ViewFits tables)) (ListFits (RunFits tables))))

-- ---- segments

abbrev pub segment_of : List ℕ × LsmTreeState → Option Prefixed
segment_of p = Some (record { prefix = p.0; tree = p.1 })

abbrev pub segment_parts : Prefixed → List ℕ × LsmTreeState
segment_parts s = (s.prefix, s.tree)

abbrev pub segment_bytes : Prefixed → List ℕ
segment_bytes s = pair_bytes counted_bytes tree_bytes (segment_parts s)

abbrev pub segment_in : List SsTableHandle → List ℕ → Option (Prefixed × List ℕ)
segment_in tables = made_in segment_of (pair_in counted_in (tree_in tables))

abbrev pub SegmentFits : List SsTableHandle → Prefixed → Type 0
SegmentFits tables = MadeFits segment_of segment_parts (PairFits IsShort (TreeFits tables))
