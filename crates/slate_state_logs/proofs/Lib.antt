pub mod ChangesPlain
