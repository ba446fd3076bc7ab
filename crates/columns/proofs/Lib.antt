pub mod RecordLaws
pub mod ColumnLaws
pub mod SeatLaws
