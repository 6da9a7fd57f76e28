pub mod Table
pub mod Codes
pub mod Requests
pub mod Reading
pub mod Writing
pub mod Inner
