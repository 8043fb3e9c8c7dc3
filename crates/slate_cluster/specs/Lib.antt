pub mod NewClusters
pub mod Ran
pub mod Told
