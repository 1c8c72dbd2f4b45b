pub use Rattle.run_shown.specs.AlterModel as AlterModel
pub use Rattle.cache_model.specs as CacheModel
pub use Rattle.cache_model.specs.CacheRegs as CacheRegs
pub use Rattle.struct_cell.specs.CfIo as CfIo
pub use Rattle.struct_cell.specs.CfLink as CfLink
pub use Rattle.plex_script.specs.CfTypes as CfTypes
pub use Rattle.plex_script.specs.EngineApi as EngineApi
pub use Rattle.list_model.specs as ListModel
pub use Rattle.list_model.specs.ListStore as ListStore
pub use Rattle.lock_model.specs as LockModel
pub use Rattle.lock_model.specs.LockQueue as LockQueue
pub use Rattle.plex_script.specs as PlexScript
pub use Rattle.run_shown.specs.QueueModel as QueueModel
pub use Rattle.run_shown.specs as RunShown
pub use Rattle.struct_cell.specs.ShellLaws as ShellLaws
pub use Rattle.struct_cell.specs as StructCell
pub use Rattle.struct_cell.specs.VecWords as VecWords
pub use Rattle.struct_cell.specs.VecWorld as VecWorld
pub mod Passes
pub mod Cells
pub mod Notes
pub mod Desks
pub mod Boards
pub mod Turns
pub mod Callers
pub mod Floors
pub mod Stations
pub mod Rests
pub mod Openings
pub mod Types
pub mod AnyCalls
pub mod Means
pub mod Told
pub mod Serial
pub mod Runnable
pub mod RunLinks
