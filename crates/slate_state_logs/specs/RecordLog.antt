-- The log of records of compactions: its codec, the rules on new versions, its epochs, and how a version is told.
use Rattle.std.specs.Prelude.{ℕ, Bool, false, List, Option, Result}
use Rattle.slate_ids.specs.declared.error.SlateDBError.{SlateDBError}
use Rattle.slate_ids.specs.declared.error.SlateDBError.TheVariants.{LatestTransactionalObjectVersionMissing}
use Rattle.slate_layout.specs.RecordCodec.{record_encoded}
use Rattle.slate_layout.specs.declared.record_codec.CompactionsCodec.{CompactionsCodec}
use Rattle.slate_txn_log.specs.declared.right.Right.{Right}
use Rattle.slate_layout_records.specs.RecordBytes.{decoded_record}
use Rattle.slate_state_record_updates.specs.RecordEpochs.{record_epoch, with_record_epoch}
use Rattle.slate_state_record_updates.specs.RecordRules.{record_refusal_of}
use Rattle.slate_state_record_updates.specs.declared.record_epochs.RecordEpochs.{RecordEpochs}
use Rattle.slate_state_record_updates.specs.declared.record_rules.CompactionsRules.{CompactionsRules}
use Rattle.slate_model_records.specs.Records.{Record, Version}

-- the record of bytes
abbrev pub record_of_bytes : CompactionsCodec → List ℕ → Result Record SlateDBError
record_of_bytes codec bytes = decoded_record bytes

-- the bytes of a record
abbrev pub bytes_of_record : CompactionsCodec → Record → Result (List ℕ) SlateDBError
bytes_of_record codec r = record_encoded r

-- the rules on new versions of a record
abbrev pub record_rules : CompactionsRules → ℕ → Record → Record → Right → Option SlateDBError
record_rules rules id old new right = record_refusal_of id old new right

-- the epoch that fences holders of a record
abbrev pub epoch_of : RecordEpochs → Record → ℕ
epoch_of epochs r = record_epoch r

-- the record with another epoch
abbrev pub with_epoch : RecordEpochs → Record → ℕ → Record
with_epoch epochs r n = with_record_epoch r n

-- a number and the record of that number, as a version
abbrev pub version_of : ℕ × Record → Version
version_of v = record { id = v.0; compactions = v.1 }

-- a record that isn't there is refused so, whatever its number
abbrev pub record_missing : ℕ → SlateDBError
record_missing n = LatestTransactionalObjectVersionMissing

-- a record names no versions
abbrev pub names_none : Record → ℕ → Bool
names_none r n = false
