pub use Rattle.plex_spell.specs as PlexSpell
pub mod Naming
pub mod PlainWords
pub mod PolicyLines
pub mod Ranges
