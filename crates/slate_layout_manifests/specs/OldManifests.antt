-- The bytes of manifests of version 1, which are read alone.
use Rattle.std.specs.Prelude.{ℕ, ℤ, ◌+◌, ◌==◌, Bool, List, [], Option, Some, None, is_some, if◌then◌else◌}
use Rattle.slate_ids.specs.KeyRange.{KeyRange}
use Rattle.slate_ids.specs.Limits.{last_number}
use Rattle.slate_model_tables.specs.declared.ss_table_handle.SsTableHandle.{SsTableHandle}
use Rattle.slate_model_tables.specs.Views.{View}
use Rattle.slate_model_tables.specs.SortedRuns.{Run}
use Rattle.slate_model.specs.declared.checkpoint.Checkpoint.{Checkpoint}
use Rattle.slate_model.specs.declared.external_db.ExternalDb.{ExternalDb}
use Rattle.slate_model.specs.declared.manifest.Manifest.{Manifest}
use Rattle.slate_model.specs.Cores.{Core}
use Rattle.slate_model.specs.Trees.{views_of}
use Rattle.slate_model.specs.Watermark.{watermark}
use Rattle.slate_layout_parts.specs.TablesOfViews.{table_id}
use Rattle.slate_layout_manifests.specs.Gathered.{gathered}
use Rattle.slate_layout_parts.specs.Reading.{◌>>=◌, u32_in, u64_in, i64_in, flag_in, option_in, list_in, pair_in, made_in, whole}
use Rattle.slate_layout_parts.specs.Texts.{text_in, id_in}
use Rattle.slate_layout_parts.specs.RangeParts.{range_in}
use Rattle.slate_layout_parts.specs.InfoParts.{handle_in}
use Rattle.slate_layout_parts.specs.ViewParts.{may_show, run_of}
use Rattle.slate_layout_manifests.specs.CheckpointParts.{checkpoint_in, entry_in, tracker_in}
use Rattle.slate_layout_manifests.specs.ManifestParts.{Head, seen_in}

-- the view of a table of its own handle, with the table's id
abbrev pub old_view_of : SsTableHandle × Option KeyRange → Option View
old_view_of p = if may_show p.0 p.1 then Some (record { id = table_id p.0.id; sst = p.0; visible = p.1 }) else None

abbrev pub old_view_in : List ℕ → Option (View × List ℕ)
old_view_in = made_in old_view_of (pair_in handle_in (option_in range_in))

abbrev pub old_views_in : List ℕ → Option (List View × List ℕ)
old_views_in = list_in old_view_in 8

abbrev pub old_run_in : List ℕ → Option (Run × List ℕ)
old_run_in = made_in run_of (pair_in u32_in old_views_in)

-- head and marker
abbrev pub Start : Type 0
Start = Head × Option (ℕ × ℕ)

-- flushed tables' views, and runs
abbrev pub Lists : Type 0
Lists = List View × List Run

-- tick, last sequence number and the least that a snapshot needs; tracker, checkpoints, entries, and the store of the write-ahead log
abbrev pub End : Type 0
End = (ℤ × (ℕ × ℕ)) × (List (ℕ × ℤ) × (List Checkpoint × (List ExternalDb × Option (List ℕ))))

abbrev pub OldBody : Type 0
OldBody = Start × (Lists × End)

abbrev pub start_in : List ℕ → Option (Start × List ℕ)
start_in = pair_in (pair_in flag_in (pair_in (pair_in u64_in u64_in) (pair_in u64_in u64_in))) (option_in id_in)

abbrev pub lists_in : List ℕ → Option (Lists × List ℕ)
lists_in = pair_in old_views_in (list_in old_run_in 4)

abbrev pub end_in : List ℕ → Option (End × List ℕ)
end_in = pair_in (pair_in i64_in (pair_in u64_in u64_in)) (pair_in tracker_in (pair_in (list_in checkpoint_in 16) (pair_in (list_in entry_in 4) (option_in text_in))))

abbrev pub old_body_in : List ℕ → Option (OldBody × List ℕ)
old_body_in = pair_in start_in (pair_in lists_in end_in)

-- the manifest of its parts: both markers are the one that was kept, there are no segments, and the floor is 0
abbrev pub old_joined : OldBody → Manifest
old_joined (((ready, ((writer, compactor), (replayed, seen))), marker), ((views, runs), ((tick, (last, needed)), (tracker, (checkpoints, (entries, store)))))) = record {
  external_dbs = entries;
  core = record {
    initialized = ready;
    tree = record { last_compacted_l0_sst_view_id = marker; last_compacted_l0_sst_id = marker; l0 = views; compacted = runs };
    segments = [];
    segment_extractor_name = None;
    wal_object_store_uri = store;
    next_wal_sst_id = seen + 1;
    replay_after_wal_id = replayed;
    last_l0_seq = last;
    recent_snapshot_min_seq = needed;
    floor = 0;
    last_l0_clock_tick = tick;
    sequence_tracker = tracker;
    checkpoints = checkpoints;
  };
  writer_epoch = writer;
  compactor_epoch = compactor;
}

-- the same, where a next file of the write-ahead log has a number
abbrev pub with_next_wal : OldBody → Option Manifest
with_next_wal ((head, marker), rest) = if seen_in head == last_number then None else Some (old_joined ((head, marker), rest))

-- the same, of parts that were read
abbrev pub read_numbered : Option OldBody → Option Manifest
read_numbered body = body >>= with_next_wal

-- whether no table has two unequal handles
abbrev pub is_consistent : Core → Bool
is_consistent core = is_some (gathered (views_of core) [])

-- the floor is the watermark
abbrev pub with_floor : Manifest → Manifest
with_floor m = record m { core = record m.core { floor = watermark m.core } }

-- the manifest, where no table has two unequal handles
abbrev pub consistent : Manifest → Option Manifest
consistent m = if is_consistent m.core then Some (with_floor m) else None

-- the manifest of all these bytes
abbrev pub first_version : List ℕ → Option Manifest
first_version bytes = read_numbered (whole (old_body_in bytes)) >>= consistent
