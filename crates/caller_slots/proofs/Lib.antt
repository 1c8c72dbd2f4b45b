pub use Rattle.run_shown.proofs as RunShown
pub mod Own
pub mod Runs
pub mod Acts
pub mod Walks
pub mod SlotLaws
pub mod FollowLaws
pub mod GapLaws
pub mod Points
pub mod InSlots
pub mod Bounds
pub mod EndLaws
