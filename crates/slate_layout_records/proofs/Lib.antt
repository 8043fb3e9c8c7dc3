mod RecordOrder
mod RecordFitting
pub mod RecordTrip
mod RecordKept
pub mod RecordOnly
pub mod NormalLaws
