pub use Rattle.plex_report.specs as PlexReport
pub mod Readings
pub mod Valid
pub mod Bounds
pub mod CacheHistories
pub mod Unique
pub mod Copies
pub mod Uncast
pub mod CacheApplied
pub mod Alters
pub mod ListHistories
pub mod Versions
pub mod ListApplied
pub mod LockHistories
pub mod LockApplied
pub mod Entries
