-- What the contracts of a program name of the crates below.
pub use Rattle.plex_board.specs.CfTypes.declared.numbers.ConnId.{ConnId}
pub use Rattle.plex_board.specs.CfTypes.declared.numbers.StrNo.{StrNo}
pub use Rattle.plex_board.specs.PlexScript.declared.asks.AnyHistory.{AnyHistory}
pub use Rattle.plex_board.specs.PlexScript.declared.scripts.Script.{Script}
pub use Rattle.plex_board.specs.Boards.{IsPolicy}
