pub mod RuleLaws
pub mod NameLaws
pub mod PlaceLaws
pub mod TwoSectors
pub mod OrderLaws
pub mod EndLaws
pub mod FaultLaws
pub mod FirstFault
