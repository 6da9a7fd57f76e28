pub mod TableLaws
pub mod BlockLaws
pub mod FigureLaws
pub mod AnswerLaws
