pub use Rattle.no_memory.specs as NoMemory
pub mod Count
pub mod MemSource
pub mod ReadEnd
pub mod Taken
