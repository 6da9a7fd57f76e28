pub mod Packing
pub mod Tellings
pub mod Entries
pub mod FrameEntries
pub mod StationEntries
pub mod ParameterEntries
pub mod LineEntries
pub mod BootEntries
