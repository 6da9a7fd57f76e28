pub mod Records
pub mod Good
pub mod Row
pub mod Logins
pub mod Turns
pub mod Inner
