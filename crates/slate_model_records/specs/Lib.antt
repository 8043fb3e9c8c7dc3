pub mod Compactions
pub mod Records
pub mod Retaining
pub mod Entries
pub mod LastFinished
