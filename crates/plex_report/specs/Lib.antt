pub use Rattle.plex_script.specs.PlexPlain as PlexPlain
pub use Rattle.plex_script.specs.PlexSpell as PlexSpell
pub mod Naming
pub mod CommandWords
pub mod RefusalWords
pub mod ReplyWords
pub mod Lines
pub mod Report
