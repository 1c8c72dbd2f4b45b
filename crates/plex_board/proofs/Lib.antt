pub use Rattle.alter_model.proofs as AlterModel
pub use Rattle.cache_model.proofs as CacheModel
pub use Rattle.struct_cell.proofs.CfLink as CfLink
pub use Rattle.cf_lists.proofs as CfLists
pub use Rattle.plex_script.proofs.EngineApi as EngineApi
pub use Rattle.list_model.proofs as ListModel
pub use Rattle.lock_model.proofs as LockModel
pub use Rattle.plex_script.proofs as PlexScript
pub use Rattle.queue_model.proofs as QueueModel
pub use Rattle.run_shown.proofs as RunShown
pub use Rattle.struct_cell.proofs.ShellLaws as ShellLaws
pub use Rattle.struct_cell.proofs.VecWords as VecWords
pub mod Imports
mod CallLaws
mod MeansLaws
mod ShownLaws
pub mod UnusedPassLaws
pub mod DeskLaws
pub mod SightLaws
pub mod StationLaws
pub mod RowLaws
pub mod HomeLaws
pub mod OpenLaws
pub mod PlaceLaws
pub mod PutLaws
pub mod CloseLaws
pub mod TrayLaws
pub mod EndLaws
pub mod DealLaws
pub mod StartLaws
pub mod UnusedLaws
pub mod WordLaws
pub mod ToldLaws
pub mod SeamLaws
