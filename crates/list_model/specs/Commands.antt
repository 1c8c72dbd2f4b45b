-- The commands of a list structure: the first refusal that holds, and what a command does where
-- none holds.
pub mod Write
pub mod Update
pub mod Read
pub mod Move
pub mod Delete
pub mod ReadList
pub mod LockSet
pub mod LockReset
pub mod LockTest
pub mod LControls
pub mod SetLimit
pub mod Monitor
pub mod Unmonitor
