pub mod CommitEnds
pub mod ReadEnds
pub mod Ranks
pub mod Turning
pub mod Sound
pub mod WorkFaults
pub mod LastTurns
pub mod Turned
