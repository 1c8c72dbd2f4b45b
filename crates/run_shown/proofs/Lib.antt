pub use Rattle.plex_script.proofs.EngineApi as EngineApi
pub use Rattle.plex_script.proofs as PlexScript
pub mod HistoryLaws
