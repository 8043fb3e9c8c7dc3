pub mod Folders
pub mod Store
pub mod FaultCounts
pub mod StoreCalls
pub mod Machines
pub mod CallRuns
pub mod InMemory
