-- The bytes of a manifest after its tables: version 2.
use Rattle.std.specs.Prelude.{ℕ, ℤ, ◌+◌, ◌-◌, ◌==◌, ◌&&◌, not, Bool, List, Option, Some, None, if◌then◌else◌}
use Rattle.std.specs.List.{list_all}
use Rattle.slate_ids.specs.Limits.{last_number}
use Rattle.slate_model_tables.specs.declared.ss_table_handle.SsTableHandle.{SsTableHandle}
use Rattle.slate_model.specs.declared.lsm_tree_state.LsmTreeState.{LsmTreeState}
use Rattle.slate_model.specs.declared.checkpoint.Checkpoint.{Checkpoint}
use Rattle.slate_model.specs.declared.external_db.ExternalDb.{ExternalDb}
use Rattle.slate_model.specs.declared.manifest.Manifest.{Manifest}
use Rattle.slate_model.specs.Segments.{Prefixed, are_ascending}
use Rattle.slate_model.specs.Trees.{views_of}
use Rattle.slate_layout_parts.specs.TablesOfViews.{table_id, ascend}
use Rattle.slate_layout_manifests.specs.UsedTables.{any_of}
use Rattle.slate_layout_parts.specs.Bytes.{u64_bytes, i64_bytes, flag_bytes, counted_bytes, option_bytes, list_bytes, pair_bytes}
use Rattle.slate_layout_parts.specs.Reading.{◌>>=◌, u64_in, i64_in, flag_in, option_in, list_in, pair_in, whole}
use Rattle.slate_layout_parts.specs.Texts.{text_in}
use Rattle.slate_layout_parts.specs.InfoParts.{handle_in}
use Rattle.slate_layout_manifests.specs.TreeParts.{tree_bytes, tree_in, segment_bytes, segment_in}
use Rattle.slate_layout_manifests.specs.CheckpointParts.{checkpoint_bytes, checkpoint_in, entry_bytes, entry_in, tracker_bytes, tracker_in}

-- ---- the parts

-- whether the database is ready; the epochs of the writer and of the compactor; the last replayed file of the write-ahead log and the last one seen
abbrev pub Head : Type 0
Head = Bool × ((ℕ × ℕ) × (ℕ × ℕ))

-- the extractor's name; the last clock tick; the last sequence number and the least that a snapshot needs
abbrev pub Middle : Type 0
Middle = Option (List ℕ) × (ℤ × (ℕ × ℕ))

-- the tracker, the checkpoints, the entries, and the floor
abbrev pub Tail : Type 0
Tail = List (ℕ × ℤ) × (List Checkpoint × (List ExternalDb × ℕ))

-- head, root tree, segments, middle, tail
abbrev pub Body : Type 0
Body = Head × (LsmTreeState × (List Prefixed × (Middle × Tail)))

-- the manifest of its parts
abbrev pub joined : Body → Manifest
joined ((ready, ((writer, compactor), (replayed, seen))), (tree, (segments, ((extractor, (tick, (last, needed))), (tracker, (checkpoints, (entries, floor))))))) = record {
  external_dbs = entries;
  core = record {
    initialized = ready;
    tree = tree;
    segments = segments;
    segment_extractor_name = extractor;
    wal_object_store_uri = None;
    next_wal_sst_id = seen + 1;
    replay_after_wal_id = replayed;
    last_l0_seq = last;
    recent_snapshot_min_seq = needed;
    floor = floor;
    last_l0_clock_tick = tick;
    sequence_tracker = tracker;
    checkpoints = checkpoints;
  };
  writer_epoch = writer;
  compactor_epoch = compactor;
}

-- the last file seen of the write-ahead log
abbrev pub seen_in : Head → ℕ
seen_in (ready, (epochs, (replayed, seen))) = seen

-- the same, where a next file of the write-ahead log has a number, and the segments ascend
abbrev pub manifest_of : Body → Option Manifest
manifest_of (head, (tree, (segments, rest))) =
    if not (seen_in head == last_number) && are_ascending segments then Some (joined (head, (tree, (segments, rest)))) else None

-- the last file seen of the write-ahead log stands before the next one
abbrev pub head_of : Manifest → Head
head_of m = (m.core.initialized, ((m.writer_epoch, m.compactor_epoch), (m.core.replay_after_wal_id, m.core.next_wal_sst_id - 1)))

-- the root tree and the segments
abbrev pub trees_of : Manifest → LsmTreeState × List Prefixed
trees_of m = (m.core.tree, m.core.segments)

abbrev pub middle_of : Manifest → Middle
middle_of m = (m.core.segment_extractor_name, (m.core.last_l0_clock_tick, (m.core.last_l0_seq, m.core.recent_snapshot_min_seq)))

abbrev pub tail_of : Manifest → Tail
tail_of m = (m.core.sequence_tracker, (m.core.checkpoints, (m.external_dbs, m.core.floor)))

-- the parts of a manifest
abbrev pub body_of : Manifest → Body
body_of m = (head_of m, (m.core.tree, (m.core.segments, (middle_of m, tail_of m))))

-- ---- their bytes

abbrev pub two_in : List ℕ → Option ((ℕ × ℕ) × List ℕ)
two_in = pair_in u64_in u64_in

abbrev pub two_bytes : ℕ × ℕ → List ℕ
two_bytes = pair_bytes u64_bytes u64_bytes

abbrev pub head_in : List ℕ → Option (Head × List ℕ)
head_in = pair_in flag_in (pair_in two_in two_in)

abbrev pub head_bytes : Head → List ℕ
head_bytes = pair_bytes flag_bytes (pair_bytes two_bytes two_bytes)

abbrev pub middle_in : List ℕ → Option (Middle × List ℕ)
middle_in = pair_in (option_in text_in) (pair_in i64_in two_in)

abbrev pub middle_bytes : Middle → List ℕ
middle_bytes = pair_bytes (option_bytes counted_bytes) (pair_bytes i64_bytes two_bytes)

abbrev pub tail_in : List ℕ → Option (Tail × List ℕ)
tail_in = pair_in tracker_in (pair_in (list_in checkpoint_in 16) (pair_in (list_in entry_in 4) u64_in))

abbrev pub tail_bytes : Tail → List ℕ
tail_bytes = pair_bytes tracker_bytes (pair_bytes (list_bytes checkpoint_bytes) (pair_bytes (list_bytes entry_bytes) u64_bytes))

-- the root tree and the segments
abbrev pub trees_bytes : LsmTreeState × List Prefixed → List ℕ
trees_bytes = pair_bytes tree_bytes (list_bytes segment_bytes)

abbrev pub body_in : List SsTableHandle → List ℕ → Option (Body × List ℕ)
body_in tables = pair_in head_in (pair_in (tree_in tables) (pair_in (list_in (segment_in tables) 4) (pair_in middle_in tail_in)))

abbrev pub body_bytes : Body → List ℕ
body_bytes = pair_bytes head_bytes (pair_bytes tree_bytes (pair_bytes (list_bytes segment_bytes) (pair_bytes middle_bytes tail_bytes)))

-- ---- the manifest

-- whether each of these tables is used by a view of the manifest
abbrev pub all_used : List SsTableHandle → Manifest → Bool
all_used tables m = list_all (λ h. any_of (table_id h.id) (views_of m.core)) tables

-- the manifest, where it uses all of these tables
abbrev pub using_all : List SsTableHandle → Manifest → Option Manifest
using_all tables m = if all_used tables m then Some m else None

-- the manifest of parts, where they were read
abbrev pub made_of : Option Body → Option Manifest
made_of body = body >>= manifest_of

-- the manifest of all these bytes, among these tables
abbrev pub manifest_among : List SsTableHandle → List ℕ → Option Manifest
manifest_among tables bytes = made_of (whole (body_in tables bytes)) >>= using_all tables

-- the manifest of all these bytes, after tables that ascend by id
abbrev pub second_version : List ℕ → Option Manifest
second_version bytes = list_in handle_in 8 bytes >>= λ tables. if ascend tables.0 then manifest_among tables.0 tables.1 else None
