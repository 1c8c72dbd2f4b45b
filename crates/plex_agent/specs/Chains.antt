-- What a caller's whole work does where the caller may hear of others before each turn: the work of one that has a
-- thread to itself, and that of one of many on one thread.
use Rattle.std.specs.Prelude.{◌≡◌, ℕ, ◌+◌, ◌==◌, MatchBool, List, [], ◌∷◌, length, Some}
use Rattle.plex_board.specs.CfTypes.declared.numbers.ConnId.{ConnId}
use Rattle.plex_board.specs.CfTypes.declared.numbers.StrNo.{StrNo}
use Rattle.plex_board.specs.PlexScript.declared.scripts.Line.{Line}
use Rattle.plex_board.specs.Passes.{IsLater}
use Rattle.plex_board.specs.Cells.{CellShown}
use Rattle.plex_board.specs.Desks.{pass_at}
use Rattle.plex_board.specs.Boards.{BoardShown, cell_on}
use Rattle.plex_board.specs.Turns.{AtWork, Turns, Departs}
use Rattle.plex_board.specs.Callers.{lines_by}

-- the caller hears of others: of each structure its desk knows as much as before, or more; nothing is shown
pub record Hears (before after : AtWork) : Type 0 where
  pub owner : after.desk.owner ≡ before.desk.owner
  pub passes : length after.desk.passes ≡ length before.desk.passes
  pub later : (on : StrNo) → IsLater (pass_at before.desk on) (pass_at after.desk on)
  pub shown : after.shown ≡ before.shown

-- the caller hears, and then this is done
abbrev pub HearsThen : (AtWork → AtWork → Type 0) → AtWork → AtWork → Type 0
HearsThen acts before after = (ready : AtWork) × Hears before ready × acts ready after

-- lines, one after another; the caller may hear before each, and behind the last
abbrev pub DoesLines : {L : Type 0} → BoardShown L → List Line → AtWork → AtWork → Type 0
DoesLines board [] before after = Hears before after
DoesLines {L} board (line ∷ lines) before after =
    (cell : CellShown L) × (cell_on board line.on ≡ Some cell)
    × ((between : AtWork) × HearsThen (Turns cell.limit cell.form line) before between
    × DoesLines board lines between after)

-- the departures from structures with these cells, of which the first has this number
abbrev pub DepartsEach : {L : Type 0} → ℕ → List (CellShown L) → AtWork → AtWork → Type 0
DepartsEach on [] before after = Hears before after
DepartsEach on (cell ∷ cells) before after =
    (between : AtWork) × HearsThen (Departs cell.limit cell.form (record { 0 = on })) before between
    × DepartsEach (on + 1) cells between after

-- a connector departs from each structure at which it is active; the operator has no closing
abbrev pub Closes : {L : Type 0} → BoardShown L → ConnId → AtWork → AtWork → Type 0
Closes board owner before after = MatchBool (owner.0 == 0) (Hears before after) (DepartsEach 0 board.cells before after)

-- the whole work of a caller
pub record Serves {L : Type 0} (board : BoardShown L) (lines : List Line) (before after : AtWork) : Type 0 where
  pub between : AtWork
  pub during : DoesLines board (lines_by before.desk.owner lines) before between
  pub closing : Closes board before.desk.owner between after
