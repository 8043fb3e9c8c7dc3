mod Always
mod Starts
mod Falling
mod PassFaults
mod Collected
pub mod GcFaults
pub mod Exactly
