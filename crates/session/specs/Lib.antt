pub mod Records
pub mod Session
