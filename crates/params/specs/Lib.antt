pub mod Tables
pub mod Blocks
pub mod Figures
pub mod Answers
