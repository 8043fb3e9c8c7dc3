pub mod Items
pub mod Fitting
pub mod InfoTrip
pub mod LeastLengths
pub mod Told
pub mod Lookups
mod Shown
