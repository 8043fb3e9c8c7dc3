pub mod Fences
pub mod Pending
pub mod Growing
