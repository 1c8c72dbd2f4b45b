pub use Rattle.run_shown.specs as RunShown
pub mod Works
pub mod Slots
pub mod Asked
