mod Folders
mod InMemory
mod Slices
pub mod LookUps
