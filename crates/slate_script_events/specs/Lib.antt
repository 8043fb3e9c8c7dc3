pub mod WrittenFilters
