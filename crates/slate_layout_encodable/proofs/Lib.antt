mod NormalSegments
pub mod NormalLaws
