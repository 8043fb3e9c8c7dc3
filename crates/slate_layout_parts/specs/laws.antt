pub mod Parts
pub mod Groups
pub mod Atoms
pub mod Texts
pub mod Ranges
pub mod Infos
pub mod Views
pub mod Compacting
