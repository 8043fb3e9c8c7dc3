pub mod Codec
pub mod RecordCodec
pub mod BoundaryCodec
pub mod Written
pub mod laws
