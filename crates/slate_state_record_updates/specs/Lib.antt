pub mod RecordRules
pub mod EntrySteps
pub mod RecordEpochs
pub mod RecordChanges
