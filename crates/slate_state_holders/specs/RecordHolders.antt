-- Holders of a record of compactions: how a log of records begins, and how a holder is fenced.
use Rattle.std.specs.Prelude.{◌≡◌, ℕ, ℤ, [], Result}
use Rattle.slate_ids.specs.declared.error.SlateDBError.{SlateDBError}
use Rattle.slate_layout.specs.declared.record_codec.CompactionsCodec.{CompactionsCodec}
use Rattle.slate_txn_log.specs.declared.right.Right.TheVariants.{Plain}
use Rattle.slate_model_records.specs.Records.{Record}
use Rattle.slate_store.specs.StoreCalls.{Told}
use Rattle.slate_txn.specs.Fence.{FencedBy, raising, setting}
use Rattle.slate_txn.specs.FencedHolder.{FencedHolder}
use Rattle.slate_txn.specs.Holder.{Holder}
use Rattle.slate_state_record_updates.specs.declared.record_epochs.RecordEpochs.{RecordEpochs}
use Rattle.slate_state_record_updates.specs.declared.record_rules.CompactionsRules.{CompactionsRules}
use Rattle.slate_state_holders.specs.Holders.{raise_machine, set_machine}
use Rattle.slate_state_logs.specs.RecordLog.{record_of_bytes, bytes_of_record, epoch_of, record_rules, with_epoch}
use Rattle.slate_txn.specs.declared.init.InitMachine.{InitMachine}

-- a holder of a record
abbrev pub RecordHolder : Type 0
RecordHolder = Holder Record CompactionsCodec CompactionsRules

-- a fenced holder of a record
abbrev pub FencedRecord : Type 0
FencedRecord = FencedHolder Record CompactionsCodec CompactionsRules RecordEpochs

-- the record of this epoch without compactions
abbrev pub empty_record : ℕ → Record
empty_record epoch = record { compactor_epoch = epoch; entries = [] }

-- a holder became a fenced one: it committed the next epoch
abbrev pub FencesLog : ℤ → ℕ → Told → Told → RecordHolder → Result FencedRecord SlateDBError → Type 0
FencesLog moment tries old new holder result =
    (epochs : RecordEpochs) × FencedBy epoch_of (raising record_of_bytes bytes_of_record record_rules epoch_of with_epoch epochs) moment tries old new holder epochs result

-- a holder became a fenced one: it committed this epoch, unless the record read has a greater one
abbrev pub FencesLogAt : ℕ → ℤ → ℕ → Told → Told → RecordHolder → Result FencedRecord SlateDBError → Type 0
FencesLogAt epoch moment tries old new holder result =
    (epochs : RecordEpochs) × FencedBy epoch_of (setting record_of_bytes bytes_of_record record_rules epoch_of with_epoch epochs epoch Plain) moment tries old new holder epochs result

-- the machine of a fence begins: the record held is to be put with its next epoch
abbrev pub RaiseOf : RecordHolder → InitMachine Record CompactionsCodec CompactionsRules RecordEpochs → Type 0
RaiseOf holder machine = (epochs : RecordEpochs) × (machine ≡ raise_machine record_rules bytes_of_record epoch_of with_epoch epochs holder)

-- the same with this epoch, unless that of the record held is greater
abbrev pub SetOf : ℕ → RecordHolder → InitMachine Record CompactionsCodec CompactionsRules RecordEpochs → Type 0
SetOf epoch holder machine = (epochs : RecordEpochs) × (machine ≡ set_machine record_rules bytes_of_record epoch_of with_epoch epochs epoch holder)
