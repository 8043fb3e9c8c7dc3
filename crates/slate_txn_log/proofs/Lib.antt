mod Ascend
mod FromTheEnd
pub mod Steps
mod Once
pub mod Faults
pub mod ReadFaults
pub mod Commits
pub mod Advances
mod Stored
mod Reached
mod Deletes
