pub use Rattle.lock_queue.specs as LockQueue
pub use Rattle.lock_table.specs as LockTable
pub mod Interests
pub mod Contents
pub mod Grants
pub mod Departures
pub mod Requests
pub mod Refusals
pub mod Commands
pub mod Step
pub mod Meaning
