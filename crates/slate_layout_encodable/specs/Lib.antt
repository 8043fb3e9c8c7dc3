pub mod Unencodable
pub mod Normal
