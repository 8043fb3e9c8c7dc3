pub mod Served
pub mod ReadSteps
pub mod AdvanceSteps
pub mod PlainChanges
pub mod PutSteps
pub mod ChangeSteps
pub mod BackPuts
pub mod TwoLogs
mod Latest
