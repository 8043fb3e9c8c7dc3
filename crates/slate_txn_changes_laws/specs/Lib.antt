pub mod Works
pub mod ChangeEnds
pub mod BothLogs
