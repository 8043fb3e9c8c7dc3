-- What a pass over tables reads, one after the other.
use Rattle.std.specs.Prelude.{◌≡◌, ℕ, List, [], Some}
use Rattle.slate_model.specs.declared.manifest.Manifest.{Manifest}
use Rattle.slate_model_records.specs.Records.{Record}
use Rattle.slate_state_record_updates.specs.RecordRules.{least_ms}
use Rattle.slate_txn_log.specs.declared.log_kind.LogKind.TheVariants as logs
use Rattle.slate_cluster_protocol.specs.Chains.{Link, link_at, top}
use Rattle.slate_cluster_protocol.specs.Logs.{Author, Chain, Chains}
use Rattle.slate_cluster_protocol.specs.Referenced.{IsReferenced}

-- these are the least milliseconds of a committed record; 0 where none was read
pub data IsLeastRead (c : Chain logs.Compactions) (least : ℕ) : Type 0 where
  OfNone : least ≡ 0 → IsLeastRead c least
  OfRecord : (n : ℕ) (l : Link Record Author) → link_at n c ≡ Some l → least ≡ least_ms l.value.entries → IsLeastRead c least

-- a record was read by a first moment; then a manifest that is the greatest at a second; then, by a third, the versions that its checkpoints name
pub record HasRead (first second third : Chains) (db : List ℕ) (least n : ℕ) (versions : List (ℕ × Manifest)) : Type 0 where
  pub least_read : IsLeastRead (first logs.Compactions db) least
  pub greatest : n ≡ top (second logs.Manifest db)
  pub got : IsReferenced (third logs.Manifest db) n [] versions
