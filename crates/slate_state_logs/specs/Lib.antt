pub mod ManifestLog
pub mod RecordLog
pub mod laws
