pub mod Tables
pub mod Views
pub mod SortedRuns
pub mod Slots
pub mod Overlap
