pub mod RecordLaws
pub mod RowLaws
pub mod RowBytes
pub mod WhoLaws
pub mod TurnLaws
