pub mod TableReads
pub mod SpareObjects
