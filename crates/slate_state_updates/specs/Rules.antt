-- The rules on a new version of a manifest.
use Rattle.std.specs.Prelude.{ℕ, ◌+◌, ◌==◌, nat_lt, ◌||◌, Bool, not, List, [], ◌∷◌, Option, Some, None, if◌then◌else◌}
use Rattle.std.specs.List.{list_all}
use Rattle.slate_ids.specs.declared.error.SlateDBError.{SlateDBError}
use Rattle.slate_ids.specs.declared.error.SlateDBError.TheVariants.{UpdateRefused}
use Rattle.slate_ids.specs.declared.error.UpdateRule.{UpdateRule}
use Rattle.slate_ids.specs.declared.error.UpdateRule.TheVariants.{U1, U2, U3, U5}
use Rattle.slate_model.specs.declared.manifest.Manifest.{Manifest}
use Rattle.slate_txn_log.specs.declared.right.Right.{Right}
use Rattle.slate_state_updates.specs.Checkpoints.{is_named}
use Rattle.slate_state_updates.specs.ExternalEntries.{entries_kept}
use Rattle.slate_state_updates.specs.FlushedTables.{tick_refusal}
use Rattle.slate_state_updates.specs.RunTables.{runs_known}
use Rattle.slate_state_updates.specs.Prefixes.{prefix_refusal}

-- an epoch, the last file of the write-ahead log that needs no replay, or the floor is below the old one
abbrev pub falls : Manifest → Manifest → Bool
falls old new = nat_lt new.writer_epoch old.writer_epoch || nat_lt new.compactor_epoch old.compactor_epoch
    || nat_lt new.core.replay_after_wal_id old.core.replay_after_wal_id || nat_lt new.core.floor old.core.floor

-- each checkpoint names the new version, whose number follows the old one's, or a version that the old manifest names
abbrev pub names_known : ℕ → Manifest → Manifest → Bool
names_known old_id old new = list_all (λ c. c.manifest_id == old_id + 1 || is_named c.manifest_id old.core.checkpoints) new.core.checkpoints

-- the refusal that names a rule, where there is one
abbrev pub refused_by : Option UpdateRule → Option SlateDBError
refused_by None = None
refused_by (Some rule) = Some (UpdateRefused rule)

-- the refusal that names a rule, where the rule isn't kept
abbrev pub unless_kept : UpdateRule → Bool → Option SlateDBError
unless_kept rule kept = if kept then None else Some (UpdateRefused rule)

-- the first refusal that there is
abbrev pub first_refusal : List (Option SlateDBError) → Option SlateDBError
first_refusal [] = None
first_refusal (Some refusal ∷ others) = Some refusal
first_refusal (None ∷ others) = first_refusal others

-- why a new manifest may not follow the old one of this number: the first rule that it breaks, of epochs, files and floor (U1), checkpoints (U2),
-- entries (U3), flushed tables (U4), sorted runs (U5) and prefixes (U10)
abbrev pub manifest_refusal : ℕ → Manifest → Manifest → Right → Option SlateDBError
manifest_refusal id old new right = first_refusal (
    unless_kept U1 (not (falls old new)) ∷
    unless_kept U2 (names_known id old new) ∷
    unless_kept U3 (entries_kept old new) ∷
    tick_refusal old new ∷
    unless_kept U5 (runs_known old new right) ∷
    prefix_refusal new.core.segments ∷ [])
