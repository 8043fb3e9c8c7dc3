pub mod Sources
pub mod Finishing
pub mod Local
pub mod EndLaws
