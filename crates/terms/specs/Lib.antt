pub mod Strings
pub mod Names
pub mod Tables
pub mod Shortcuts
pub mod Statuses
