mod Ordered
mod Inserted
mod TrimKept
pub mod PutLast
