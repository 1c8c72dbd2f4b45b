pub use Rattle.cf_types.specs as CfTypes
pub use Rattle.engine_api.specs as EngineApi
pub use Rattle.plex_plain.specs as PlexPlain
pub use Rattle.plex_plain.specs.PlexSpell as PlexSpell
pub mod LineWords
pub mod PolicyWords
pub mod LineReading
pub mod PolicyReading
pub mod Causes
pub mod Scripts
pub mod Reading
pub mod Laws
pub mod Agent
pub mod Commands
pub mod Heard
pub mod Follows
pub mod WellFormed
pub mod Printed
pub mod Limits
