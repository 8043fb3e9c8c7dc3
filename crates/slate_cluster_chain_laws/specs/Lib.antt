pub mod ChainSteps
pub mod Raises
pub mod RecordSteps
pub mod Locals
pub mod TableSteps
