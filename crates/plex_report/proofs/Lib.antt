pub use Rattle.plex_script.proofs.PlexSpell as PlexSpell
pub mod Imports
pub mod Digits
pub mod LinesAt
pub mod Sections
