-- What a manifest says of a database, without its epochs and the external databases.
use Rattle.std.specs.Prelude.{◌≡◌, ℕ, ℤ, negsuc, Bool, true, List, [], Option, None}
use Rattle.slate_model.specs.declared.lsm_tree_state.LsmTreeState.{LsmTreeState}
use Rattle.slate_model.specs.declared.checkpoint.Checkpoint.{Checkpoint}
use Rattle.slate_model.specs.Segments.{Prefixed}

-- the core of a manifest: the root tree, the segments' trees, the numbers of the write-ahead log, and what else is kept
pub record Core : Type 0 where
  pub initialized : Bool
  pub tree : LsmTreeState
  pub segments : List Prefixed
  pub segment_extractor_name : Option (List ℕ)
  pub wal_object_store_uri : Option (List ℕ)
  pub next_wal_sst_id : ℕ
  pub replay_after_wal_id : ℕ
  pub last_l0_seq : ℕ
  pub recent_snapshot_min_seq : ℕ
  pub floor : ℕ
  pub last_l0_clock_tick : ℤ
  pub sequence_tracker : List (ℕ × ℤ)
  pub checkpoints : List Checkpoint

-- a tree without tables
abbrev pub empty_tree : LsmTreeState
empty_tree = record { last_compacted_l0_sst_view_id = None; last_compacted_l0_sst_id = None; l0 = []; compacted = [] }

-- the core of a new database: ready, the first file of the write-ahead log is 1, no moment noted, and all else 0 or empty
abbrev pub new_core : Core
new_core = record {
  initialized = true;
  tree = empty_tree;
  segments = [];
  segment_extractor_name = None;
  wal_object_store_uri = None;
  next_wal_sst_id = 1;
  replay_after_wal_id = 0;
  last_l0_seq = 0;
  recent_snapshot_min_seq = 0;
  floor = 0;
  last_l0_clock_tick = negsuc 9223372036854775807;
  sequence_tracker = [];
  checkpoints = [];
}

-- all numbers of two cores are the same
abbrev pub SameNumbers : Core → Core → Type 0
SameNumbers a b =
    (a.next_wal_sst_id ≡ b.next_wal_sst_id)
    × (a.replay_after_wal_id ≡ b.replay_after_wal_id)
    × (a.last_l0_seq ≡ b.last_l0_seq)
    × (a.recent_snapshot_min_seq ≡ b.recent_snapshot_min_seq)
    × (a.floor ≡ b.floor)
    × (a.last_l0_clock_tick ≡ b.last_l0_clock_tick)
