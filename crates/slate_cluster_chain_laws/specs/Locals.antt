-- What a compactor holds of a record, beside the greatest record.
use Rattle.std.specs.Prelude.{◌≡◌, ℕ, true, List, Some, None, is_some}
use Rattle.slate_model_records.specs.Records.{Record, entry_of}
use Rattle.slate_model_records.specs.Retaining.{has_id}
use Rattle.slate_model_records.specs.declared.compaction.Compaction.{Compaction}
use Rattle.slate_model_records.specs.declared.compaction_status.CompactionStatus.TheVariants.{Compacted}
use Rattle.slate_state_compactor.specs.declared.local_state.LocalState.{LocalState}
use Rattle.slate_state_record_updates.specs.RecordRules.{first_refusal, outputs_refusal}

-- a compaction that is Compacted in a record
pub record IsCompactedIn (r : Record) (id : ℕ × ℕ) : Type 0 where
  pub entry : Compaction
  pub at : entry_of id r.entries ≡ Some entry
  pub status : entry.status ≡ Compacted

-- what is Compacted in one record is so in another
abbrev pub CompactedStay : Record → Record → Type 0
CompactedStay old new = (id : ℕ × ℕ) → IsCompactedIn old id → IsCompactedIn new id

-- what a compactor holds is in a record: what is pending has an entry there, and what is Compacted here is so there
pub record IsHeldIn (r : Record) (local : LocalState) : Type 0 where
  pub pending : (id : ℕ × ℕ) → has_id local.pending id ≡ true → is_some (entry_of id r.entries) ≡ true
  pub compacted : CompactedStay local.compactions r

-- each compaction obeys the rule on outputs: none lies below its compaction
abbrev pub ObeyOutputs : List Compaction → Type 0
ObeyOutputs entries = first_refusal outputs_refusal entries ≡ None
