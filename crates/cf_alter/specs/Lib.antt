pub mod AlteredView
pub mod Limits
