pub mod LeastIds
mod MappedRecords
