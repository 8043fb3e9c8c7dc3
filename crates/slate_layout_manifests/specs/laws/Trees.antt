-- Trees and segments give back what was written, and find only that.
use Rattle.std.specs.Prelude.{◌≡◌, ℕ, List, Some, None}
use Rattle.std.proofs.Common.{ap, sym}
use Rattle.slate_model_tables.specs.declared.ss_table_handle.SsTableHandle.{SsTableHandle}
use Rattle.slate_model.specs.declared.lsm_tree_state.LsmTreeState.{LsmTreeState}
use Rattle.slate_model.specs.Segments.{Prefixed}
use Rattle.slate_layout_parts.specs.Bytes.{counted_bytes}
use Rattle.slate_layout_parts.specs.Reading.{counted_in}
use Rattle.slate_layout_parts.specs.Reads.{Reads}
use Rattle.slate_layout_parts.specs.laws.Groups.{option_reads, list_reads, pair_reads, made_reads}
use Rattle.slate_layout_parts.specs.laws.Atoms.{counted_reads}
use Rattle.slate_layout_parts.specs.Texts.{IsShort, id_bytes, id_in, IdFits}
use Rattle.slate_layout_parts.specs.laws.Texts.{id_reads}
use Rattle.slate_layout_parts.specs.ViewParts.{RunFits, ViewFits, run_bytes, run_in, view_bytes, view_in}
use Rattle.slate_layout_parts.specs.laws.Views.{run_reads, view_reads}
use Rattle.slate_layout_manifests.specs.TreeParts.{TreeParts, tree_of, tree_parts, tree_bytes, tree_in, TreeFits, segment_of, segment_parts, segment_bytes, segment_in, SegmentFits}

-- ---- trees

tree_apart : (p : TreeParts) (t : LsmTreeState) → tree_of p ≡ Some t → tree_parts t ≡ p
tree_apart p t e =
    let same : (let s : LsmTreeState = record { last_compacted_l0_sst_view_id = p.0; last_compacted_l0_sst_id = None; l0 = p.1.0; compacted = p.1.1 } in s) ≡ t = cc in
    sym (ap tree_parts same)

pub tree_reads : (tables : List SsTableHandle) → Reads (tree_in tables) tree_bytes (TreeFits tables) 1
tree_reads tables = made_reads _ _ _ 1 (pair_reads _ _ _ 1 (option_reads id_in id_bytes IdFits 8 id_reads) _ _ _ 4
    (pair_reads _ _ _ 4 (list_reads (view_in tables) view_bytes (ViewFits tables) 8 (view_reads tables)) _ _ _ 4
    (list_reads (run_in tables) run_bytes (RunFits tables) 4 (run_reads tables)))) tree_of tree_parts (λ x y fits e. tree_apart x y e)

-- ---- segments

segment_apart : (p : List ℕ × LsmTreeState) (s : Prefixed) → segment_of p ≡ Some s → segment_parts s ≡ p
segment_apart p s e = let same : (let t : Prefixed = record { prefix = p.0; tree = p.1 } in t) ≡ s = cc in sym (ap segment_parts same)

pub segment_reads : (tables : List SsTableHandle) → Reads (segment_in tables) segment_bytes (SegmentFits tables) 4
segment_reads tables = made_reads _ _ _ 4 (pair_reads counted_in counted_bytes IsShort 4 counted_reads _ _ _ 1 (tree_reads tables)) segment_of segment_parts (λ x y fits e. segment_apart x y e)
