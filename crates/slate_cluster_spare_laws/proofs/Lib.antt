mod SpareTables
mod Pending
mod Made
mod Onward
mod Stays
mod Later
mod Picks
mod TablePass
mod PassSteps
mod PassMoves
pub mod RemovedTables
mod Unpublished
