pub use Rattle.block_laws.specs as BlockLaws
pub use Rattle.caller_slots.specs as CallerSlots
pub use Rattle.caller_slots.specs.RunShown as RunShown
pub mod Printings
pub mod Judged
