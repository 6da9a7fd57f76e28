pub mod Bits
pub mod Zeros
pub mod Check
pub mod Frame
pub mod Writing
pub mod Reading
pub mod Inner
pub mod Promises
