pub use Rattle.plex_script.specs.CfTypes as CfTypes
pub use Rattle.plex_script.specs as PlexScript
pub use Rattle.plex_script.specs.PlexSpell as PlexSpell
pub mod Generated
pub mod Loads
pub mod Counts
pub mod Summary
