pub use Rattle.plex_script.proofs.PlexSpell as PlexSpell
pub mod Imports
pub mod NumberLaws
pub mod TermLaws
pub mod CallLaws
pub mod EachLine
pub mod Numbering
pub mod LoadLimits
pub mod LoadCalls
pub mod LoadLaws
