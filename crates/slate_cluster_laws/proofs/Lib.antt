pub mod Stores
pub mod Facts
mod Frame
pub mod Paths
mod Puts
mod Moves
mod Lists
mod Turns
pub mod Maps
mod Advances
pub mod FactsKept
pub mod Rows
pub mod GoingOn
mod Beginnings
mod OpeningRecords
mod OpeningTables
pub mod Listed
pub mod Passes
pub mod Referenced
pub mod Sweeps
pub mod Steps
pub mod Changing
pub mod Opens
mod StateCalls
pub mod Calls
mod Tallies
pub mod Runs
pub mod Trails
pub mod Opening
pub mod Changes
pub mod Ordered
pub mod Removals
pub mod Zeros
pub mod Safety
pub mod Along
pub mod AfterEvents
mod Holding
mod OwnCalls
mod Tops
mod Elsewhere
pub mod Pools
pub mod OpenedEpochs
mod OpeningStands
mod OpeningTags
