-- How the core of a manifest is kept: field by field as it is.
use Rattle.slate_model.specs.Cores.{Core}
use Rattle.slate_model.specs.declared.manifest_core.ManifestCore.TheInside.{Inside}

-- the core that is kept so
abbrev pub core_of : Inside → Core
core_of a = record {
  initialized = a.initialized;
  tree = a.tree;
  segments = a.segments;
  segment_extractor_name = a.segment_extractor_name;
  wal_object_store_uri = a.wal_object_store_uri;
  next_wal_sst_id = a.next_wal_sst_id;
  replay_after_wal_id = a.replay_after_wal_id;
  last_l0_seq = a.last_l0_seq;
  recent_snapshot_min_seq = a.recent_snapshot_min_seq;
  floor = a.floor;
  last_l0_clock_tick = a.last_l0_clock_tick;
  sequence_tracker = a.sequence_tracker;
  checkpoints = a.checkpoints;
}

-- how a core is kept
abbrev pub inside_of : Core → Inside
inside_of core = record {
  initialized = core.initialized;
  tree = core.tree;
  segments = core.segments;
  segment_extractor_name = core.segment_extractor_name;
  wal_object_store_uri = core.wal_object_store_uri;
  next_wal_sst_id = core.next_wal_sst_id;
  replay_after_wal_id = core.replay_after_wal_id;
  last_l0_seq = core.last_l0_seq;
  recent_snapshot_min_seq = core.recent_snapshot_min_seq;
  floor = core.floor;
  last_l0_clock_tick = core.last_l0_clock_tick;
  sequence_tracker = core.sequence_tracker;
  checkpoints = core.checkpoints;
}
