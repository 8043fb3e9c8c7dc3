pub mod Changes
pub mod LogWorks
pub mod Turns
pub mod Latest
pub mod LastTurns
