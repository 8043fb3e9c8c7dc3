pub mod ManifestsPlain
pub mod RecordsPlain
