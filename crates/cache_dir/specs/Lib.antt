pub use Rattle.cf_pool.specs as CfPool
pub mod RowMap
pub mod Locks
