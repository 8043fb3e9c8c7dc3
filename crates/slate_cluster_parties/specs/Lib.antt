pub mod Moved
pub mod Events
