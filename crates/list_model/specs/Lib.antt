pub use Rattle.list_store.specs as ListStore
pub use Rattle.list_watch.specs as ListWatch
pub mod Keys
pub mod Records
pub mod Lists
pub mod Contents
pub mod Sublists
pub mod Items
pub mod Refusals
pub mod Commands
pub mod Step
pub mod Meaning
