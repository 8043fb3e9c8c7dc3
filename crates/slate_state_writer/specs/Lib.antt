pub mod Writer
pub mod PlainOpening
pub mod StateCalls
pub mod StateLaws
pub mod Leaving
