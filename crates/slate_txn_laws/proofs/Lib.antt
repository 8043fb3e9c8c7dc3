pub mod Told
pub mod PlainCommits
pub mod Turns
mod Entries
pub mod Tops
pub mod LatestReads
pub mod Places
mod CommitWalks
mod Renewals
pub mod ApplyWalks
pub mod UpdateWalks
pub mod Asides
pub mod OtherCalls
mod FineObjects
pub mod Leavings
pub mod BoundaryWalks
pub mod HolderReads
pub mod Inside
pub mod OneCalls
pub mod FirstVersions
pub mod PlainInside
