pub mod Runs
pub mod Following
pub mod Promise
pub mod Silence
pub mod Story
pub mod Reset
