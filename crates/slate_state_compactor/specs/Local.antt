-- What a compactor holds between its calls, and how each call changes it.
use Rattle.std.specs.Prelude.{ℕ, ◌++◌, Bool, true, false, List, [], ◌∷◌, Option, Some, None, Result, Ok, Err, if◌then◌else◌}
use Rattle.slate_ids.specs.declared.error.SlateDBError.{SlateDBError}
use Rattle.slate_ids.specs.declared.error.SlateDBError.TheVariants.{InvalidDBState}
use Rattle.slate_ids.specs.declared.error.StateCause.TheVariants.{CompactionState, BadSources}
use Rattle.slate_model.specs.Cores.{Core}
use Rattle.slate_model.specs.declared.lsm_tree_state.LsmTreeState.{LsmTreeState}
use Rattle.slate_model_records.specs.Compactions.{segment_of, is_terminal}
use Rattle.slate_model_records.specs.Records.{Record, entry_of}
use Rattle.slate_model_records.specs.declared.compaction.Compaction.{Compaction}
use Rattle.slate_model_records.specs.declared.compaction_status.CompactionStatus.{CompactionStatus}
use Rattle.slate_model_records.specs.declared.compaction_status.CompactionStatus.TheVariants.{Compacted as IsCompacted, Completed, Failed}
use Rattle.slate_model_records.specs.Retaining.{has_id}
use Rattle.slate_model_tables.specs.declared.ss_table_handle.SsTableHandle.{SsTableHandle}
use Rattle.slate_model_tables.specs.declared.ss_table_id.SsTableId.{SsTableId}
use Rattle.slate_model_tables.specs.declared.ss_table_id.SsTableId.TheVariants.{Wal, Compacted}
use Rattle.slate_state_record_updates.specs.EntrySteps.{with_local_statuses, with_entry, with_status, no_such}
use Rattle.slate_state_compactor.specs.Finishing.{finished_tree}
use Rattle.slate_state_merges.specs.LocalTrees.{Trees, trees_of, tree_of, with_tree, trees_merged}
use Rattle.slate_state_compactor.specs.declared.local_state.LocalState.{LocalState}

-- ---- calls

-- after an open: the trees of the manifest that its raise put, and the record that it committed last
abbrev pub opened : Core → Record → LocalState
opened core r = record { trees = trees_of core; compactions = r; pending = [] }

abbrev pub with_trees : Record → LocalState → Result Trees SlateDBError → Result LocalState SlateDBError
with_trees read local (Ok trees) = Ok (record local { trees = trees; compactions = with_local_statuses local.compactions read })
with_trees read local (Err e) = Err e

-- after a refresh: the record read, with the local statuses, and the trees merged with those of the manifest read
abbrev pub refreshed : Record → Core → LocalState → Result LocalState SlateDBError
refreshed read core local = with_trees read local (trees_merged core local.trees)

-- after a schedule: the record committed, with the local statuses
abbrev pub scheduled : Record → LocalState → LocalState
scheduled committed local = record local { compactions = with_local_statuses local.compactions committed }

-- after the commit of the manifest with its trees: the trees committed, and nothing is pending
abbrev pub manifest_committed : Core → LocalState → LocalState
manifest_committed core local = record local { trees = trees_of core; pending = [] }

-- after the commit of the record with its statuses: the record committed
abbrev pub record_committed : Record → LocalState → LocalState
record_committed committed local = record local { compactions = committed }

-- ---- the end of a compaction

abbrev pub is_compacted : CompactionStatus → Bool
is_compacted IsCompacted = true
is_compacted _ = false

-- the ids that are pending, and one more
abbrev pub one_more_pending : List (ℕ × ℕ) → ℕ × ℕ → List (ℕ × ℕ)
one_more_pending pending id = pending ++ id ∷ []

-- a record in which a compaction has another status
abbrev pub with_entry_status : CompactionStatus → Compaction → Record → Record
with_entry_status status c r = with_entry (with_status status c) r

-- with these trees the compaction is Completed, and pending
abbrev pub with_finished : Compaction → LocalState → Trees → LocalState
with_finished c local trees = record {
  trees = trees;
  compactions = with_entry_status Completed c local.compactions;
  pending = one_more_pending local.pending c.id;
}

-- where its sources are bad it is refused
abbrev pub placed_finished : Compaction → LocalState → Option LsmTreeState → Result LocalState SlateDBError
placed_finished c local (Some tree) = Ok (with_finished c local (with_tree (segment_of c.spec) tree local.trees))
placed_finished c local None = Err (InvalidDBState (BadSources c.id))

-- the tree of its segment once it is finished; none where there is no such segment
abbrev pub tree_finished : Compaction → Option LsmTreeState → Option LsmTreeState
tree_finished c (Some tree) = finished_tree c.spec c.output_ssts tree
tree_finished c None = None

-- a compaction that is compacted is finished in the tree of its segment
abbrev pub finish_found : LocalState → Compaction → Result LocalState SlateDBError
finish_found local c = placed_finished c local (tree_finished c (tree_of (segment_of c.spec) local.trees))

-- the compaction that was found is finished, where it waits for it
abbrev pub finish_of : LocalState → ℕ × ℕ → Option Compaction → Result LocalState SlateDBError
finish_of local id None = Err (no_such id)
finish_of local id (Some c) = if is_compacted c.status then finish_found local c else Err (InvalidDBState (CompactionState id))

-- the compaction of an id is finished
abbrev pub finished : ℕ × ℕ → LocalState → Result LocalState SlateDBError
finished id local = finish_of local id (entry_of id local.compactions.entries)

-- a compaction fails
abbrev pub fail_found : LocalState → Compaction → LocalState
fail_found local c = record local { compactions = with_entry_status Failed c local.compactions }

-- the compaction that was found fails, where it isn't over
abbrev pub fail_of : LocalState → ℕ × ℕ → Option Compaction → Result LocalState SlateDBError
fail_of local id None = Err (no_such id)
fail_of local id (Some c) = if is_terminal c.status then Err (InvalidDBState (CompactionState id)) else Ok (fail_found local c)

-- the compaction of an id fails
abbrev pub failed : ℕ × ℕ → LocalState → Result LocalState SlateDBError
failed id local = fail_of local id (entry_of id local.compactions.entries)

-- ---- what is pending

-- ids with that of a compacted table in front
abbrev pub with_compacted : SsTableId → List (ℕ × ℕ) → List (ℕ × ℕ)
with_compacted (Compacted id) ids = id ∷ ids
with_compacted (Wal number) ids = ids

-- the compacted tables of handles; a file of the write-ahead log is none
abbrev pub compacted_ids : List SsTableHandle → List (ℕ × ℕ)
compacted_ids [] = []
compacted_ids (sst ∷ ssts) = with_compacted sst.id (compacted_ids ssts)

-- the outputs of those of the compactions whose ids are pending
abbrev pub outputs_among : List (ℕ × ℕ) → List Compaction → List (ℕ × ℕ)
outputs_among pending [] = []
outputs_among pending (c ∷ entries) = if has_id pending c.id then compacted_ids c.output_ssts ++ outputs_among pending entries else outputs_among pending entries

-- the outputs that are pending: those that the manifest with a compactor's trees may bring
abbrev pub pending_outputs : LocalState → List (ℕ × ℕ)
pending_outputs local = outputs_among local.pending local.compactions.entries
