pub mod Presence
pub mod Links
