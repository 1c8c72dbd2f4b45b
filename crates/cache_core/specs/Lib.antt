pub use Rattle.cache_model.specs.CacheDir as CacheDir
pub use Rattle.cache_model.specs as CacheModel
pub use Rattle.cache_model.specs.CacheRegs as CacheRegs
pub use Rattle.cf_lists.specs as CfLists
pub use Rattle.cache_model.specs.CfPool as CfPool
pub mod Measure
pub mod Plans
pub mod EngineView
