pub mod LogsAtEnd
pub mod InCalls
pub mod OwnCalls
