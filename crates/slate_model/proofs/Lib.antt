mod Trackers
mod Latest
mod Ascending
mod Nestings
mod Placing
pub mod Apart
mod Chosen
