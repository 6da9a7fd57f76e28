pub mod Play
pub mod Marked
