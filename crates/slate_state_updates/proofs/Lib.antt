mod Expired
mod NamedVersions
mod TableSets
mod Nested
pub mod Lawful
pub mod PrefixesApart
mod StandingApart
pub mod Unchanged
mod Placings
mod Freshening
