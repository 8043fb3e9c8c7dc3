-- From one manifest to the next: where the tables of its database come from.
use Rattle.std.specs.Prelude.{◌≡◌, ℕ, ◌≤◌, true}
use Rattle.slate_model.specs.declared.manifest.Manifest.{Manifest}
use Rattle.slate_model_tables.specs.declared.ss_table_id.SsTableId.TheVariants.{Compacted}
use Rattle.slate_state_updates.specs.FlushedTables.{least_tick}
use Rattle.slate_state_updates.specs.RunTables.{outputs_of}
use Rattle.slate_state_updates.specs.TableSets.{is_among}
use Rattle.slate_txn_log.specs.declared.right.Right.{Right}
use Rattle.slate_cluster_protocol.specs.Reach.{HasOwn}

-- the old manifest has it; or a flush brings it, which is from the old floor and the old watermark on; or a compactor does, which made it
pub data ComesFrom (right : Right) (old : Manifest) (id : ℕ × ℕ) : Type 0 where
  Stays : HasOwn old id → ComesFrom right old id
  Flushed : least_tick old ≤ id.0 → ComesFrom right old id
  Made : is_among (outputs_of right) (Compacted id) ≡ true → ComesFrom right old id

-- each of the new manifest's own tables comes from there
abbrev pub OwnTablesCome : Right → Manifest → Manifest → Type 0
OwnTablesCome right old new = (id : ℕ × ℕ) → HasOwn new id → ComesFrom right old id
