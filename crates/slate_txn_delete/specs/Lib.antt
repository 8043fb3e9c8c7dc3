pub mod CheckedDelete
