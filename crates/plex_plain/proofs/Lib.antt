pub use Rattle.plex_spell.proofs as PlexSpell
pub mod Imports
pub mod TokenLaws
pub mod CommandLaws
pub mod Tests
pub mod Places
pub mod Said
pub mod Texts
pub mod Rooms
pub mod Rows
pub mod Within
