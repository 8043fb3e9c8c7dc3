pub mod PassPicks
