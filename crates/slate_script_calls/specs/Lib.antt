pub mod ReadCalls
pub mod ReadEvents
