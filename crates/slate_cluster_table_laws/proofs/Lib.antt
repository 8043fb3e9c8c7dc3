pub mod EachLink
pub mod Marks
mod Outputs
mod NewViews
mod OwnTables
mod Stand
mod OpeningObjects
mod Starting
mod HeldOutputs
pub mod Merging
mod Merges
mod Moving
pub mod Moments
