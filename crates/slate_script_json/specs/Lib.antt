pub mod Fields
pub mod WrittenIds
pub mod Words
pub mod ReadCheckpoints
pub mod ReadFlushedTables
