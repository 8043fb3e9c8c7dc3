pub mod Trees
pub mod Checkpoints
