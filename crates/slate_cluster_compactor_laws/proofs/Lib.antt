pub mod Growing
mod Works
mod Greatest
mod Held
mod Others
mod OwnChains
mod OpenSteps
mod StateSteps
mod OwnParty
mod Starts
pub mod Wholes
pub mod Openings
pub mod EachMoment
pub mod Laws
