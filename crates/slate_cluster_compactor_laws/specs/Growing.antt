-- Along a chain of records: how a compaction may go, or stop being Compacted.
use Rattle.std.specs.Prelude.{◌≡◌, ◌≢◌, ◌⊎◌, ◌≤◌, ◌<◌, ℕ, ◌+◌, true, List, [], Option, Some, None, is_some}
use Rattle.slate_txn_log.specs.declared.log_kind.LogKind.TheVariants as logs
use Rattle.slate_model_records.specs.Records.{Record, entry_of}
use Rattle.slate_model_tables.specs.declared.ss_table_handle.SsTableHandle.{SsTableHandle}
use Rattle.slate_state_record_updates.specs.RecordRules.{KeepsLeast}
use Rattle.slate_state_record_updates.specs.declared.record_change.RecordChange.TheVariants.{Reset, PutStatuses}
use Rattle.slate_cluster_protocol.specs.Chains.{Link, link_at}
use Rattle.slate_cluster_protocol.specs.Logs.{Author, Chain, Puts, OfRecord}
use Rattle.slate_cluster_chain_laws.specs.RecordSteps.{EndsIt, HasOutputs, TakesAway}

-- after one number and up to another there is a record whose author put what does it to the one before
pub record IsBetween (Does : Puts → Record → Type 0) (c : Chain logs.Compactions) (from to : ℕ) : Type 0 where
  pub number : ℕ
  pub old : Link Record Author
  pub new : Link Record Author
  pub was : link_at number c ≡ Some old
  pub is : link_at (number + 1) c ≡ Some new
  pub above : from ≤ number
  pub below : number < to
  pub author : Author
  pub by : new.by ≡ Some author
  pub does : Does author.puts old.value

-- from a record to a later one each compaction stays, or was taken away between them; and one that is Compacted stays so with its outputs, or was
-- ended between them; where there are compactions some stay, and the least milliseconds of their ids don't fall
pub record RecordsGrow (c : Chain logs.Compactions) : Type 0 where
  pub stays : (from to : ℕ) (old new : Link Record Author) (id : ℕ × ℕ) → link_at from c ≡ Some old → link_at to c ≡ Some new → from ≤ to
      → is_some (entry_of id old.value.entries) ≡ true → (is_some (entry_of id new.value.entries) ≡ true) ⊎ IsBetween (λ puts r. TakesAway puts r id) c from to
  pub compacted : (from to : ℕ) (old new : Link Record Author) (id : ℕ × ℕ) (outputs : List SsTableHandle) → link_at from c ≡ Some old → link_at to c ≡ Some new → from ≤ to
      → HasOutputs old.value id outputs → HasOutputs new.value id outputs ⊎ IsBetween (λ puts r. EndsIt puts r id) c from to
  pub least : (from to : ℕ) (old new : Link Record Author) → link_at from c ≡ Some old → link_at to c ≡ Some new → from ≤ to → old.value.entries ≢ [] → KeepsLeast old.value.entries new.value.entries

-- the epoch of the compactor that resets a record, or puts its statuses
abbrev pub trimming_epoch : Puts → Option ℕ
trimming_epoch (OfRecord (Reset epoch)) = Some epoch
trimming_epoch (OfRecord (PutStatuses compactor local pending)) = compactor
trimming_epoch _ = None

-- only the compactor that has the epoch of a record resets it, or puts its statuses to it
abbrev pub TrimmedByHolders : Chain logs.Compactions → Type 0
TrimmedByHolders c = (number : ℕ) (old new : Link Record Author) (author : Author) (epoch : ℕ) → link_at number c ≡ Some old → link_at (number + 1) c ≡ Some new → new.by ≡ Some author → trimming_epoch author.puts ≡ Some epoch
    → old.value.compactor_epoch ≡ epoch
