pub mod ReferencedFaults
mod NamedOnce
