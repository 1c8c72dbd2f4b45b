pub use Rattle.duplex_pair.specs.CfIo as CfIo
pub use Rattle.duplex_pair.specs.CfLink as CfLink
pub use Rattle.cf_types.specs as CfTypes
pub use Rattle.engine_api.specs as EngineApi
pub use Rattle.plex_shell.specs as PlexShell
pub use Rattle.shell_laws.specs as ShellLaws
pub mod Asking
pub mod Changes
pub mod Content
pub mod Deeds
pub mod Kept
pub mod Losses
pub mod Marks
pub mod StructureView
pub mod Turns
