-- Tables that nobody needs, nor will.
use Rattle.std.specs.Prelude.{ℕ, ◌<◌, List, [], ◌∷◌}
use Rattle.slate_state_record_updates.specs.RecordRules.{least_ms}
use Rattle.slate_txn_log.specs.declared.log_kind.LogKind.TheVariants as logs
use Rattle.slate_cluster_protocol.specs.Logs.{Chain, Chains}
use Rattle.slate_cluster_protocol.specs.Reach.{NeedsTable}

-- the floor of the greatest manifest, 0 where there is none
abbrev pub floor_top : Chain logs.Manifest → ℕ
floor_top [] = 0
floor_top (l ∷ c) = l.value.core.floor

-- the least milliseconds of the compactions of the greatest record, 0 where there is none
abbrev pub least_top : Chain logs.Compactions → ℕ
least_top [] = 0
least_top (l ∷ c) = least_ms l.value.entries

-- a table is from before the floor of the greatest manifest, and from before the compactions of the greatest record, and no needed version has it
pub record IsSpareTable (chains : Chains) (db : List ℕ) (id : ℕ × ℕ) : Type 0 where
  pub floor : id.0 < floor_top (chains logs.Manifest db)
  pub least : id.0 < least_top (chains logs.Compactions db)
  pub unneeded : NeedsTable (chains logs.Manifest db) id → ⊥
