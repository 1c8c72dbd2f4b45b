-- The commands of a cache structure: the first refusal that holds, and what a command does where none holds.
pub mod Read
pub mod Write
pub mod CrossInval
pub mod RegList
pub mod Castout
pub mod Unlock
pub mod CoClass
pub mod CoStats
pub mod DirInfo
pub mod Delete
pub mod StgStats
