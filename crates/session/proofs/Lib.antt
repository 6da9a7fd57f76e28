pub mod RecordLaws
pub mod PlayLaws
pub mod TurnLaws
pub mod Blocks
