pub mod TableLaws
pub mod SystemLaws
pub mod BlockLaws
pub mod EntryLaws
pub mod ChoiceLaws
pub mod AnswerLaws
pub mod Theorems
pub mod Witnesses
