pub mod State
pub mod Good
pub mod Asks
pub mod Replies
