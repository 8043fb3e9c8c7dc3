pub mod RecordBytes
pub mod RecordNormal
pub mod RecordFields
pub mod RecordWritten
pub mod NormalRecords
