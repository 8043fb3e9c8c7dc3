pub mod PassEnds
pub mod ReportEnds
