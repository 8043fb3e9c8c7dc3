-- What the rules on new versions of a manifest say, in words of what stands in the two versions.
use Rattle.std.specs.Prelude.{◌≡◌, ◌⊎◌, ℕ, ◌+◌, ◌≤◌, Bool, true, false, List, ◌∷◌, ◌++◌, Option, Some, None}
use Rattle.slate_ids.specs.Keys.{key_lt, begins_with}
use Rattle.slate_ids.specs.declared.error.SlateDBError.{SlateDBError}
use Rattle.slate_ids.specs.declared.error.SlateDBError.TheVariants.{UpdateRefused, InvalidClockTick, InvalidSegmentPrefix}
use Rattle.slate_model_tables.specs.declared.ss_table_id.SsTableId.{SsTableId}
use Rattle.slate_model_tables.specs.declared.ss_table_id.SsTableId.TheVariants.{Compacted}
use Rattle.slate_model.specs.declared.manifest.Manifest.{Manifest}
use Rattle.slate_model.specs.Segments.{Prefixed}
use Rattle.slate_state_updates.specs.Checkpoints.{is_named}
use Rattle.slate_state_updates.specs.FlushedTables.{flushed_tables, least_tick}
use Rattle.slate_state_updates.specs.TableSets.{is_among}

-- neither epoch is below the old one, nor the last file of the write-ahead log that needs no replay, nor the floor
pub record NothingFalls (old new : Manifest) : Type 0 where
  pub writer : old.writer_epoch ≤ new.writer_epoch
  pub compactor : old.compactor_epoch ≤ new.compactor_epoch
  pub replay : old.core.replay_after_wal_id ≤ new.core.replay_after_wal_id
  pub floor : old.core.floor ≤ new.core.floor

-- each version that the new manifest's checkpoints name is its own, whose number follows the old one's, or is named by the old manifest's
abbrev pub NamesKnown : ℕ → Manifest → Manifest → Type 0
NamesKnown n old new = (k : ℕ) → is_named k new.core.checkpoints ≡ true → (k ≡ n + 1) ⊎ (is_named k old.core.checkpoints ≡ true)

-- each of these tables that isn't among the old ones is from this moment in milliseconds on; files of the write-ahead log have no moment
abbrev pub StartAt : ℕ → List SsTableId → List SsTableId → Type 0
StartAt moment old new = (id : ℕ × ℕ) → is_among new (Compacted id) ≡ true → is_among old (Compacted id) ≡ false → moment ≤ id.0

-- each flushed table that isn't one of the old manifest's is from its floor and its watermark on
abbrev pub AreTimely : Manifest → Manifest → Type 0
AreTimely old new = StartAt (least_tick old) (flushed_tables old.core) (flushed_tables new.core)

-- the prefix of an earlier segment stands below that of a later one, and neither begins with the other
pub record StandApart (earlier later : Prefixed) : Type 0 where
  pub below : key_lt earlier.prefix later.prefix ≡ true
  pub extends_not : begins_with earlier.prefix later.prefix ≡ false
  pub is_no_part : begins_with later.prefix earlier.prefix ≡ false

-- any two segments, not only neighbours, stand apart: the prefixes ascend strictly, and no two nest
abbrev pub AllStandApart : List Prefixed → Type 0
AllStandApart segments = (front middle back : List Prefixed) (earlier later : Prefixed) → segments ≡ front ++ earlier ∷ (middle ++ later ∷ back) → StandApart earlier later

-- whether a refusal is one of the rules
abbrev pub is_of_rules : SlateDBError → Bool
is_of_rules (UpdateRefused rule) = true
is_of_rules (InvalidClockTick last next) = true
is_of_rules (InvalidSegmentPrefix prefix conflict) = true
is_of_rules _ = false

-- there is no refusal, or it is one of the rules
abbrev pub IsOfRules : Option SlateDBError → Type 0
IsOfRules None = Unit {0}
IsOfRules (Some e) = is_of_rules e ≡ true
