-- The rules on a new version of a record of compactions.
use Rattle.std.specs.Prelude.{◌≢◌, ◌≤◌, ℕ, pos, ◌==◌, nat_lt, ◌&&◌, min, Bool, false, not, List, [], ◌∷◌, length, Option, Some, None, is_some, is_none, if◌then◌else◌}
use Rattle.std.specs.List.{list_any}
use Rattle.std.specs.Option.{option_or}
use Rattle.slate_ids.specs.declared.error.SlateDBError.{SlateDBError}
use Rattle.slate_ids.specs.declared.error.SlateDBError.TheVariants.{InvalidClockTick, UpdateRefused}
use Rattle.slate_ids.specs.declared.error.UpdateRule.{UpdateRule}
use Rattle.slate_ids.specs.declared.error.UpdateRule.TheVariants.{U1, U8, U9}
use Rattle.slate_model_tables.specs.declared.ss_table_id.SsTableId.{SsTableId}
use Rattle.slate_model_tables.specs.declared.ss_table_id.SsTableId.TheVariants.{Wal, Compacted}
use Rattle.slate_model_records.specs.declared.compaction.Compaction.{Compaction}
use Rattle.slate_model_records.specs.Records.{Record, entry_of}
use Rattle.slate_model_records.specs.Retaining.{has_id}
use Rattle.slate_txn_log.specs.declared.right.Right.{Right}
use Rattle.slate_txn_log.specs.declared.right.Right.TheVariants.{Plain, Attach, Compactor, RecordHolder}

-- ---- refusals

-- the first refusal in a list
abbrev pub first_refusal : {X : Type 0} → (X → Option SlateDBError) → List X → Option SlateDBError
first_refusal refusal [] = None
first_refusal refusal (x ∷ xs) = option_or (refusal x) (first_refusal refusal xs)

-- the refusal that names a rule, where it is broken
abbrev pub rule_refusal : Bool → UpdateRule → Option SlateDBError
rule_refusal broken rule = if broken then Some (UpdateRefused rule) else None

-- milliseconds below those before them are refused with both
abbrev pub clock_refusal : ℕ → ℕ → Option SlateDBError
clock_refusal last next = if nat_lt next last then Some (InvalidClockTick (pos last) (pos next)) else None

-- ---- the rules

-- the epoch is below the old one
abbrev pub epoch_falls : Record → Record → Bool
epoch_falls old new = nat_lt new.compactor_epoch old.compactor_epoch

-- the least of these milliseconds and those of the ids of compactions
abbrev pub least_with : ℕ → List Compaction → ℕ
least_with ms [] = ms
least_with ms (c ∷ entries) = min c.id.0 (least_with ms entries)

-- the least milliseconds of the ids of compactions; 0 without any
abbrev pub least_ms : List Compaction → ℕ
least_ms [] = 0
least_ms (c ∷ entries) = least_with c.id.0 entries

-- a compaction that the old record lacks lies at or above the old record's least id
abbrev pub entry_refusal : List Compaction → Compaction → Option SlateDBError
entry_refusal old c = if is_some (entry_of c.id old) then None else clock_refusal (least_ms old) c.id.0

-- a table lies at or above these milliseconds; a file of the write-ahead log has none of its own
abbrev pub table_refusal : ℕ → SsTableId → Option SlateDBError
table_refusal ms (Wal number) = None
table_refusal ms (Compacted id) = clock_refusal ms id.0

-- each output lies at or above its compaction
abbrev pub outputs_refusal : Compaction → Option SlateDBError
outputs_refusal c = first_refusal (λ sst. table_refusal c.id.0 sst.id) c.output_ssts

-- the old record has compactions, and the new one none
abbrev pub is_emptied : List Compaction → List Compaction → Bool
is_emptied old new = not (length old == 0) && (length new == 0)

-- whether a right removes the compaction of an id: that of a holder of the record does, unless the compaction is pending
abbrev pub may_remove : Right → ℕ × ℕ → Bool
may_remove Plain id = false
may_remove Attach id = false
may_remove (Compactor outputs) id = false
may_remove (RecordHolder pending) id = not (has_id pending id)

-- a compaction of the old record is missing in the new one, and the right doesn't remove it
abbrev pub is_lost : Right → List Compaction → Compaction → Bool
is_lost right new c = is_none (entry_of c.id new) && not (may_remove right c.id)

-- the first new compaction that is too old, or else the first output, by the compactions' ids and then in their order
abbrev pub clocks_refusal : List Compaction → List Compaction → Option SlateDBError
clocks_refusal old new = option_or (first_refusal (entry_refusal old) new) (first_refusal outputs_refusal new)

-- compactions don't all go, and none goes without the right
abbrev pub removal_refusal : Right → List Compaction → List Compaction → Option SlateDBError
removal_refusal right old new = option_or (rule_refusal (is_emptied old new) U8) (rule_refusal (list_any (is_lost right new) old) U9)

-- the first rule that a new record breaks after an old one
abbrev pub refusal_between : Record → Record → Right → Option SlateDBError
refusal_between old new right =
    option_or (rule_refusal (epoch_falls old new) U1)
    (option_or (clocks_refusal old.entries new.entries)
    (removal_refusal right old.entries new.entries))

-- why a new record may not follow the old one of this number
abbrev pub record_refusal_of : ℕ → Record → Record → Right → Option SlateDBError
record_refusal_of id old new right = refusal_between old new right

-- ---- what they keep

-- there are compactions, and the least milliseconds haven't fallen
pub record KeepsLeast (old new : List Compaction) : Type 0 where
  pub some_stand : new ≢ []
  pub least : least_ms old ≤ least_ms new
