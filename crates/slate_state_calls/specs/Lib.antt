pub mod Compactors
pub mod Commits
pub mod Opening
pub mod StateSteps
