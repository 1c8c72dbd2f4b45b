pub use Rattle.caller_slots.specs as CallerSlots
pub mod Orders
