pub use Rattle.cache_model.proofs as CacheModel
pub use Rattle.cache_rows.proofs.CacheRegs as CacheRegs
pub use Rattle.cf_lists.proofs as CfLists
pub mod Imports
pub mod NextLaws
pub mod EndLaws
pub mod FrontLaws
pub mod PlanLaws
mod BaseLaws
