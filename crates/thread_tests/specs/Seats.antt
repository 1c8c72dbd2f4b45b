-- A board with one cache, and who works at it.
use Rattle.std.specs.Prelude.{◌≡◌, ◌<◌, IfSome, length}
use Rattle.plex_board.specs.CfTypes.declared.numbers.StrNo.{StrNo}
use Rattle.plex_board.specs.CfTypes.Forms.{IsConnector}
use Rattle.plex_board.specs.Types.{OfCache}
use Rattle.plex_board.specs.Desks.{DeskShown}
use Rattle.plex_board.specs.Boards.{BoardShown, IsDeskOf, cell_on}
use Rattle.thread_tests.specs.declared.trial.Trial.{Trial}

abbrev pub first_structure : StrNo
first_structure = record { 0 = 0 }

-- the first structure is a cache whose vectors have bits
pub record HasCache {L : Type 0} (board : BoardShown L) : Type 0 where
  pub there : 0 < length board.cells
  pub cache : IfSome (cell_on board first_structure) (λ cell. OfCache ≡ cell.str_type)
  pub bits : IfSome (cell_on board first_structure) (λ cell. 0 < cell.words.len)

-- a connector's desk at a board with such a cache
pub record IsSeat {L : Type 0} (board : BoardShown L) (desk : DeskShown) : Type 0 where
  pub cache : HasCache board
  pub of_board : IsDeskOf board desk
  pub connector : IsConnector desk.owner

-- a board with two connectors and such a cache, and the desks of its callers
pub record IsTrial (trial : Trial) : Type 0 where
  pub callers : trial.board.callers ≡ 2
  pub operator : IsDeskOf trial.board trial.operator
  pub first : IsSeat trial.board trial.first
  pub second : IsSeat trial.board trial.second
