pub mod Holders
pub mod ManifestHolders
pub mod RecordHolders
pub mod CheckpointMachines
pub mod AboutCheckpoints
