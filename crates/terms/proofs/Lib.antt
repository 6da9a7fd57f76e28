pub mod StringLaws
pub mod NameLaws
pub mod PatternLaws
pub mod TableLaws
pub mod StatusLaws
