pub use Rattle.alter_model.specs as AlterModel
pub use Rattle.cache_model.specs as CacheModel
pub use Rattle.plex_script.specs.CfTypes as CfTypes
pub use Rattle.plex_script.specs.EngineApi as EngineApi
pub use Rattle.list_model.specs as ListModel
pub use Rattle.lock_model.specs as LockModel
pub use Rattle.plex_script.specs as PlexScript
pub use Rattle.queue_model.specs as QueueModel
pub mod Meanings
pub mod Kinds
pub mod Numbers
pub mod Headline
