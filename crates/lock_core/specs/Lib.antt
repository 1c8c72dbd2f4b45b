pub use Rattle.lock_model.specs as LockModel
pub use Rattle.lock_queue.specs as LockQueue
pub mod Orders
pub mod Stock
pub mod Plans
pub mod Awaited
pub mod EngineView
