-- What a flush of uploaded tables makes of a manifest.
use Rattle.std.specs.Prelude.{◌≡◌, ℕ, List, [], ◌∷◌, None, if◌then◌else◌}
use Rattle.slate_model_tables.specs.Views.{View}
use Rattle.slate_model_tables.specs.declared.ss_table_id.SsTableId.{SsTableId}
use Rattle.slate_model_tables.specs.declared.ss_table_handle.SsTableHandle.{SsTableHandle}
use Rattle.slate_model.specs.declared.lsm_tree_state.LsmTreeState.{LsmTreeState}
use Rattle.slate_model.specs.declared.manifest.Manifest.{Manifest}
use Rattle.slate_model.specs.Cores.{Core}
use Rattle.slate_model.specs.Insertion.{tree_for, or_empty, with_tree}
use Rattle.slate_model.specs.Sequences.{inserted}
use Rattle.slate_model.specs.Trees.{tables_of}
use Rattle.slate_state_merges.specs.ManifestMerging.{merged_manifest}
use Rattle.std.specs.BTreeSet.{BTreeSet}
use Rattle.slate_state_updates.specs.TableSets.{is_among, IsTableSet}
use Rattle.slate_state_updates.specs.declared.flush_batch.FlushedTable.{FlushedTable}
use Rattle.slate_state_updates.specs.declared.flush_batch.FlushBatch.{FlushBatch}

-- the flushed tables that aren't known yet, each once: the first of those with one id
abbrev pub fresh_tables : List SsTableId → List FlushedTable → List FlushedTable
fresh_tables known [] = []
fresh_tables known (t ∷ tables) = if is_among known t.sst.id then fresh_tables (t.sst.id ∷ known) tables else t ∷ fresh_tables (t.sst.id ∷ known) tables

-- a view of all of a table
abbrev pub whole_view : ℕ × ℕ → SsTableHandle → View
whole_view id sst = record { id = id; sst = sst; visible = None }

-- a tree with a view in front of its L0
abbrev pub with_newest : View → LsmTreeState → LsmTreeState
with_newest view tree = record tree { l0 = view ∷ tree.l0 }

-- the core with a flushed table in front of the L0 of its prefix, in a new segment where the prefix has none
abbrev pub with_flushed : Core → FlushedTable → Core
with_flushed core t = with_tree t.prefix core (with_newest (whole_view t.view t.sst) (or_empty (tree_for t.prefix core)))

-- the core with these flushed tables, one after the other
abbrev pub with_all_flushed : Core → List FlushedTable → Core
with_all_flushed core [] = core
with_all_flushed core (t ∷ tables) = with_all_flushed (with_flushed core t) tables

-- the core with the numbers of a flush; the tracker takes the pair of sequence number and tick where it is in order
abbrev pub with_numbers : FlushBatch → Core → Core
with_numbers batch core = record core {
  replay_after_wal_id = batch.replay_after;
  next_wal_sst_id = batch.next_wal;
  last_l0_clock_tick = batch.tick;
  last_l0_seq = batch.seq;
  sequence_tracker = inserted core.sequence_tracker (batch.seq, batch.tick);
}

-- a core with what a flush puts into it: the tables that none of its trees has, and the numbers
abbrev pub with_batch : FlushBatch → Core → Core
with_batch batch core = with_numbers batch (with_all_flushed core (fresh_tables (tables_of core) batch.tables))

-- what a flush makes of the manifest read: that one merged with itself, with what the flush puts
abbrev pub tables_flushed : FlushBatch → Manifest → Manifest
tables_flushed batch m = let merged = merged_manifest m.core m in record merged { core = with_batch batch merged.core }

-- a flushed table was put into the core where the set had it not, and the set has it then besides all that it had
abbrev pub PutsNew : BTreeSet SsTableId → BTreeSet SsTableId → Core → Core → FlushedTable → Type 0
PutsNew old new core next t = (known : List SsTableId) → IsTableSet old known → IsTableSet new (t.sst.id ∷ known) × (next ≡ (if is_among known t.sst.id then core else with_flushed core t))
