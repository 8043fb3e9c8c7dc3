pub mod TakenBack
mod Undone
