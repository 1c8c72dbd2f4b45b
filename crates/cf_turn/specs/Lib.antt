pub mod Turns
pub mod Locks
