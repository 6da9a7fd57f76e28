pub mod Tables
pub mod Systems
pub mod Honors
pub mod Choice
pub mod Lent
pub mod Block
pub mod Answers
pub mod Inner
