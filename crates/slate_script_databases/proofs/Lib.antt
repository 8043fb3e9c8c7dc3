mod Ascending
mod Grouped
mod Ids
mod Markers
