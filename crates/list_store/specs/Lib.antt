pub use Rattle.cf_pool.specs as CfPool
pub mod Record
pub mod Lists
pub mod Orders
pub mod Spots
pub mod Tied
pub mod TableView
pub mod Records
pub mod StoreView
