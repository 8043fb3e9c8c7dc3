-- The parts of a manifest give back what was written, and find only that.
use Rattle.std.specs.Prelude.{◌≡◌, ℕ, true, List}
use Rattle.slate_model_tables.specs.declared.ss_table_handle.SsTableHandle.{SsTableHandle}
use Rattle.slate_layout_parts.specs.Bytes.{is_u64, is_i64}
use Rattle.slate_layout_parts.specs.Reads.{Reads, OptionFits, ListFits, PairFits}
use Rattle.slate_layout_parts.specs.laws.Groups.{option_reads, list_reads, pair_reads}
use Rattle.slate_layout_parts.specs.laws.Atoms.{u64_reads, i64_reads, flag_reads}
use Rattle.slate_layout_parts.specs.Texts.{TextFits}
use Rattle.slate_layout_parts.specs.laws.Texts.{text_reads}
use Rattle.slate_layout_manifests.specs.TreeParts.{TreeFits, SegmentFits}
use Rattle.slate_layout_manifests.specs.laws.Trees.{tree_reads, segment_reads}
use Rattle.slate_layout_manifests.specs.CheckpointParts.{CheckpointFits, EntryFits, TrackerFits}
use Rattle.slate_layout_manifests.specs.laws.Checkpoints.{checkpoint_reads, entry_reads, tracker_reads}
use Rattle.slate_layout_manifests.specs.ManifestParts.{Head, Middle, Tail, Body, two_in, two_bytes, head_in, head_bytes, middle_in, middle_bytes, tail_in, tail_bytes, body_in, body_bytes}

abbrev IsU64 : ℕ → Type 0
IsU64 n = is_u64 n ≡ true

abbrev TwoFit : ℕ × ℕ → Type 0
TwoFit = PairFits IsU64 IsU64

two_reads : Reads two_in two_bytes TwoFit 8
two_reads = pair_reads _ _ _ 8 u64_reads _ _ _ 8 u64_reads

abbrev HeadFits : Head → Type 0
HeadFits = PairFits (λ flag. Unit {0}) (PairFits TwoFit TwoFit)

head_reads : Reads head_in head_bytes HeadFits 1
head_reads = pair_reads _ _ _ 1 flag_reads _ _ _ 8 (pair_reads _ _ _ 8 two_reads _ _ _ 8 two_reads)

abbrev MiddleFits : Middle → Type 0
MiddleFits = PairFits (OptionFits TextFits) (PairFits (λ z. is_i64 z ≡ true) TwoFit)

middle_reads : Reads middle_in middle_bytes MiddleFits 1
middle_reads = pair_reads _ _ _ 1 (option_reads _ _ _ 4 text_reads) _ _ _ 8 (pair_reads _ _ _ 8 i64_reads _ _ _ 8 two_reads)

abbrev TailFits : Tail → Type 0
TailFits = PairFits TrackerFits (PairFits (ListFits CheckpointFits) (PairFits (ListFits EntryFits) IsU64))

tail_reads : Reads tail_in tail_bytes TailFits 4
tail_reads = pair_reads _ _ _ 4 tracker_reads _ _ _ 4 (pair_reads _ _ _ 4 (list_reads _ _ _ 16 checkpoint_reads) _ _ _ 4 (pair_reads _ _ _ 4 (list_reads _ _ _ 4 entry_reads) _ _ _ 8 u64_reads))

abbrev pub BodyFits : List SsTableHandle → Body → Type 0
BodyFits tables = PairFits HeadFits (PairFits (TreeFits tables) (PairFits (ListFits (SegmentFits tables)) (PairFits MiddleFits TailFits)))

pub body_reads : (tables : List SsTableHandle) → Reads (body_in tables) body_bytes (BodyFits tables) 1
body_reads tables = pair_reads _ _ _ 1 head_reads _ _ _ 1 (pair_reads _ _ _ 1 (tree_reads tables) _ _ _ 4 (pair_reads _ _ _ 4 (list_reads _ _ _ 4 (segment_reads tables)) _ _ _ 1 (pair_reads _ _ _ 1 middle_reads _ _ _ 4 tail_reads)))
