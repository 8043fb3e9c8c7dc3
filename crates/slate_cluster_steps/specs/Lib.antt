pub mod Onward
pub mod PutWorks
pub mod Followed
pub mod PartySteps
