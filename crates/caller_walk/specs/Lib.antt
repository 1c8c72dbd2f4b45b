pub use Rattle.caller_slots.specs as CallerSlots
pub mod Counts
pub mod Heard
pub mod Running
