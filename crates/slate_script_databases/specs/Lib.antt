pub mod Databases
pub mod PrefixGroups
pub mod FirstRecordFields
pub mod OpeningRecords
pub mod DatabaseFields
