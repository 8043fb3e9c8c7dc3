pub mod Opened
pub mod Differing
pub mod Pools
