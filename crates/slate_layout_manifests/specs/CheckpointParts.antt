-- The bytes of checkpoints, of entries of other databases, and of trackers.
use Rattle.std.specs.Prelude.{◌≡◌, ℕ, ℤ, pos, negsuc, ◌*◌, ◌/◌, ◌<◌, ◌^◌, ◌==◌, true, List, length, Option, Some, None, if◌then◌else◌}
use Rattle.slate_model_tables.specs.declared.ss_table_id.SsTableId.{SsTableId}
use Rattle.slate_model.specs.declared.checkpoint.Checkpoint.{Checkpoint}
use Rattle.slate_model.specs.declared.external_db.ExternalDb.{ExternalDb}
use Rattle.slate_model.specs.Sequences.{is_kept}
use Rattle.slate_layout_parts.specs.Bytes.{is_u64, is_i64, u32_bytes, u64_bytes, i64_bytes, counted_bytes, option_bytes, list_bytes, pair_bytes}
use Rattle.slate_layout_parts.specs.Reading.{bytes_in, u32_in, u64_in, i64_in, option_in, list_in, pair_in, made_in}
use Rattle.slate_layout_parts.specs.Reads.{OptionFits, ListFits, PairFits, MadeFits}
use Rattle.slate_layout_parts.specs.Texts.{text_in, TextFits, path_in, PathFits}
use Rattle.slate_layout_parts.specs.InfoParts.{TableFits, table_bytes, table_in}

-- ---- checkpoints

-- the second of a moment in milliseconds, cut down; 0 before the first
abbrev pub second_of : ℤ → ℕ
second_of (pos n) = n / 1000
second_of (negsuc n) = 0

-- the moment of a second
abbrev pub moment_of : ℕ → ℤ
moment_of second = pos (second * 1000)

-- the expiry at a second, which isn't 0; never, where there is none
abbrev pub expiry_of : Option ℕ → Option (Option ℤ)
expiry_of None = Some None
expiry_of (Some second) = if second == 0 then None else Some (Some (moment_of second))

-- the second of an expiry
abbrev pub expiry_second : Option ℤ → Option ℕ
expiry_second None = None
expiry_second (Some t) = Some (second_of t)

-- the id, the version that it names, the seconds of expiry and creation, and the name
abbrev pub CheckpointParts : Type 0
CheckpointParts = List ℕ × (ℕ × (Option ℕ × (ℕ × Option (List ℕ))))

-- the checkpoint of these parts, but with this expiry
abbrev pub dated : CheckpointParts → Option ℤ → Checkpoint
dated (id, (version, (second, (creation, name)))) expiry = record { id = id; manifest_id = version; expire_time = expiry; create_time = moment_of creation; name = name }

-- the same, where the expiry is one
abbrev pub expiring : CheckpointParts → Option (Option ℤ) → Option Checkpoint
expiring p None = None
expiring p (Some expiry) = Some (dated p expiry)

-- the checkpoint of its parts
abbrev pub checkpoint_of : CheckpointParts → Option Checkpoint
checkpoint_of (id, (version, (second, rest))) = expiring (id, (version, (second, rest))) (expiry_of second)

abbrev pub checkpoint_parts : Checkpoint → CheckpointParts
checkpoint_parts c = (c.id, (c.manifest_id, (expiry_second c.expire_time, (second_of c.create_time, c.name))))

abbrev pub id_name_in : List ℕ → Option (CheckpointParts × List ℕ)
id_name_in = pair_in (bytes_in 16) (pair_in u64_in (pair_in (option_in u32_in) (pair_in u32_in (option_in text_in))))

abbrev pub id_name_bytes : CheckpointParts → List ℕ
id_name_bytes = pair_bytes (λ l. l) (pair_bytes u64_bytes (pair_bytes (option_bytes u32_bytes) (pair_bytes u32_bytes (option_bytes counted_bytes))))

-- a number of 32 bits
abbrev pub IsU32 : ℕ → Type 0
IsU32 n = n < 2 ^ 32

abbrev pub CheckpointPartsFit : CheckpointParts → Type 0
CheckpointPartsFit = PairFits (λ l. length l ≡ 16) (PairFits (λ n. is_u64 n ≡ true) (PairFits (OptionFits IsU32) (PairFits IsU32 (OptionFits TextFits))))

abbrev pub checkpoint_bytes : Checkpoint → List ℕ
checkpoint_bytes c = id_name_bytes (checkpoint_parts c)

abbrev pub checkpoint_in : List ℕ → Option (Checkpoint × List ℕ)
checkpoint_in = made_in checkpoint_of id_name_in

abbrev pub CheckpointFits : Checkpoint → Type 0
CheckpointFits = MadeFits checkpoint_of checkpoint_parts CheckpointPartsFit

-- ---- entries of other databases

-- the path, the source, the pin, and the tables
abbrev pub EntryParts : Type 0
EntryParts = List ℕ × (List ℕ × (Option (List ℕ) × List SsTableId))

abbrev pub entry_of : EntryParts → Option ExternalDb
entry_of (path, (source, (pin, tables))) = Some (record { path = path; source_checkpoint_id = source; final_checkpoint_id = pin; sst_ids = tables })

abbrev pub entry_parts : ExternalDb → EntryParts
entry_parts e = (e.path, (e.source_checkpoint_id, (e.final_checkpoint_id, e.sst_ids)))

abbrev pub entry_parts_in : List ℕ → Option (EntryParts × List ℕ)
entry_parts_in = pair_in path_in (pair_in (bytes_in 16) (pair_in (option_in (bytes_in 16)) (list_in table_in 8)))

abbrev pub entry_parts_bytes : EntryParts → List ℕ
entry_parts_bytes = pair_bytes counted_bytes (pair_bytes (λ l. l) (pair_bytes (option_bytes (λ l. l)) (list_bytes table_bytes)))

abbrev pub EntryPartsFit : EntryParts → Type 0
EntryPartsFit = PairFits PathFits (PairFits (λ l. length l ≡ 16) (PairFits (OptionFits (λ l. length l ≡ 16)) (ListFits TableFits)))

abbrev pub entry_bytes : ExternalDb → List ℕ
entry_bytes e = entry_parts_bytes (entry_parts e)

abbrev pub entry_in : List ℕ → Option (ExternalDb × List ℕ)
entry_in = made_in entry_of entry_parts_in

abbrev pub EntryFits : ExternalDb → Type 0
EntryFits = MadeFits entry_of entry_parts EntryPartsFit

-- ---- trackers

-- the pairs of a tracker, where one may keep them
abbrev pub tracker_of : List (ℕ × ℤ) → Option (List (ℕ × ℤ))
tracker_of pairs = if is_kept pairs then Some pairs else None

abbrev pub moment_in : List ℕ → Option ((ℕ × ℤ) × List ℕ)
moment_in = pair_in u64_in i64_in

abbrev pub moment_bytes : ℕ × ℤ → List ℕ
moment_bytes = pair_bytes u64_bytes i64_bytes

abbrev pub MomentFits : ℕ × ℤ → Type 0
MomentFits = PairFits (λ n. is_u64 n ≡ true) (λ z. is_i64 z ≡ true)

abbrev pub tracker_bytes : List (ℕ × ℤ) → List ℕ
tracker_bytes = list_bytes moment_bytes

abbrev pub tracker_in : List ℕ → Option (List (ℕ × ℤ) × List ℕ)
tracker_in = made_in tracker_of (list_in moment_in 8)

abbrev pub TrackerFits : List (ℕ × ℤ) → Type 0
TrackerFits = MadeFits tracker_of (λ pairs. pairs) (ListFits MomentFits)
