-- The epoch of a record, which fences compactors, and the record of a log without one.
use Rattle.std.specs.Prelude.{ℕ, [], Option, Result}
use Rattle.slate_ids.specs.declared.error.SlateDBError.{SlateDBError}
use Rattle.slate_model_records.specs.Records.{Record}
use Rattle.slate_txn_log.specs.Change.{next_epoch}

-- the record of a log without one
abbrev pub first_record : Record
first_record = record { compactor_epoch = 0; entries = [] }

-- the epoch that fences compactors
abbrev pub record_epoch : Record → ℕ
record_epoch r = r.compactor_epoch

-- the record with another epoch
abbrev pub with_record_epoch : Record → ℕ → Record
with_record_epoch r n = record r { compactor_epoch = n }

-- what an open makes of the record read: its epoch plus one, where there is such an epoch
abbrev pub raised_record : ℕ → Record → Result (Option Record) SlateDBError
raised_record n r = next_epoch record_epoch with_record_epoch n r
