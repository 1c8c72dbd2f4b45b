pub use Rattle.cache_dir.specs as CacheDir
pub use Rattle.cache_regs.specs as CacheRegs
pub use Rattle.cache_dir.specs.CfPool as CfPool
pub mod Rows
pub mod Contents
pub mod Room
pub mod Refusals
pub mod Commands
pub mod Step
pub mod Meaning
pub mod Runs
pub mod Uncast
