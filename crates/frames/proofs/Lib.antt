pub mod TableLaws
pub mod ReadLaws
pub mod WriteLaws
pub mod FieldLaws
pub mod RoundTrips
