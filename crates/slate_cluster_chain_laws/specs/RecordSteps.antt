-- From one record of compactions to the next: what who put it may take away.
use Rattle.std.specs.Prelude.{◌≡◌, ◌⊎◌, ◌≤◌, ℕ, true, false, List, Some, is_some}
use Rattle.slate_model_records.specs.Compactions.{is_terminal}
use Rattle.slate_model_records.specs.Records.{Record, entry_of}
use Rattle.slate_model_records.specs.Retaining.{has_id}
use Rattle.slate_model_records.specs.declared.compaction.Compaction.{Compaction}
use Rattle.slate_model_records.specs.declared.compaction_status.CompactionStatus.TheVariants.{Compacted}
use Rattle.slate_model_tables.specs.declared.ss_table_handle.SsTableHandle.{SsTableHandle}
use Rattle.slate_state_record_updates.specs.declared.record_change.RecordChange.TheVariants.{Reset, PutStatuses}
use Rattle.slate_cluster_protocol.specs.Logs.{Puts, OfRecord}

-- a compaction is over in a record: it is there, Completed or Failed
pub record IsOverIn (r : Record) (id : ℕ × ℕ) : Type 0 where
  pub entry : Compaction
  pub at : entry_of id r.entries ≡ Some entry
  pub over : is_terminal entry.status ≡ true

-- it is Compacted there, with these outputs
pub record HasOutputs (r : Record) (id : ℕ × ℕ) (outputs : List SsTableHandle) : Type 0 where
  pub entry : Compaction
  pub at : entry_of id r.entries ≡ Some entry
  pub status : entry.status ≡ Compacted
  pub same : entry.output_ssts ≡ outputs

-- what is put to a record is a compactor's local statuses, by which a compaction is over; the compactor's epoch isn't below that of the record
pub record EndsIt (puts : Puts) (old : Record) (id : ℕ × ℕ) : Type 0 where
  pub epoch : ℕ
  pub local : Record
  pub pending : List (ℕ × ℕ)
  pub is : puts ≡ OfRecord (PutStatuses (Some epoch) local pending)
  pub fenced : old.compactor_epoch ≤ epoch
  pub over : IsOverIn local id

-- what is put may take the entry of a compaction away: an open resets the record, where it is over; or a compactor puts its local statuses, for which it
-- isn't pending, where it is over in the record or among these; the compactor's epoch isn't below that of the record
pub data TakesAway (puts : Puts) (old : Record) (id : ℕ × ℕ) : Type 0 where
  ByReset : (epoch : ℕ) → puts ≡ OfRecord (Reset epoch) → old.compactor_epoch ≤ epoch → IsOverIn old id → TakesAway puts old id
  ByTrim : (epoch : ℕ) (local : Record) (pending : List (ℕ × ℕ)) → puts ≡ OfRecord (PutStatuses (Some epoch) local pending) → old.compactor_epoch ≤ epoch → has_id pending id ≡ false
      → IsOverIn old id ⊎ IsOverIn local id → TakesAway puts old id

-- from a record to the next each entry stays, or is taken away; and one that is Compacted stays so with its outputs, or is ended
pub record KeepsEntries (puts : Puts) (old new : Record) : Type 0 where
  pub stays : (id : ℕ × ℕ) → is_some (entry_of id old.entries) ≡ true → (is_some (entry_of id new.entries) ≡ true) ⊎ TakesAway puts old id
  pub compacted : (id : ℕ × ℕ) (outputs : List SsTableHandle) → HasOutputs old id outputs → HasOutputs new id outputs ⊎ EndsIt puts old id
