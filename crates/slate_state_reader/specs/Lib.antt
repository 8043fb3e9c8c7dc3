pub mod BothReads
pub mod StateViews
