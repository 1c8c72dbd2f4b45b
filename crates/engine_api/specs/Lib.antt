pub use Rattle.cf_types.specs as CfTypes
pub use Rattle.rebuild_core.specs as RebuildCore
pub mod Shapes
pub mod Meaning
pub mod Items
pub mod Instances
pub mod Rebuilds
pub mod Shell
pub mod Told
pub mod Machine
pub mod LinkAsks
pub mod History
pub mod Answers
pub mod Points
pub mod Asking
