pub mod LogRules
pub mod Links
pub mod Spares
mod NormalRules
mod NormalRecordRules
pub mod Manifests
pub mod Epochs
pub mod Rising
pub mod Names
pub mod ChainSteps
pub mod Raises
mod FoundEntries
pub mod Locals
pub mod RecordSteps
pub mod TableSteps
