pub use Rattle.caller_items.specs as CallerItems
pub use Rattle.vector_waits.specs as VectorWaits
pub mod Tests
