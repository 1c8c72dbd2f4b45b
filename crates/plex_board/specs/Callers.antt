-- What a caller's whole work does: its lines, one after another, and then its departures.
use Rattle.std.specs.Prelude.{◌≡◌, ℕ, ◌+◌, ◌==◌, MatchBool, List, [], ◌∷◌, filter, Some}
use Rattle.plex_script.specs.CfTypes.declared.numbers.ConnId.{ConnId}
use Rattle.plex_script.specs.declared.scripts.Line.{Line}
use Rattle.plex_script.specs.declared.transcripts.AgentEnd.TheVariants as ended
use Rattle.plex_script.specs.declared.transcripts.Transcript.{Transcript}
use Rattle.plex_board.specs.Cells.{CellShown}
use Rattle.plex_board.specs.Boards.{BoardShown, cell_on}
use Rattle.plex_board.specs.Turns.{AtWork, MayAct, Turns, Departs}

-- a line for this board: its structure is there, and its caller may do what it says
pub record IsLineFor {L : Type 0} (board : BoardShown L) (line : Line) : Type 0 where
  pub cell : CellShown L
  pub there : cell_on board line.on ≡ Some cell
  pub may : MayAct cell line.by line.act

-- nothing was shown yet
abbrev pub no_items : Transcript
no_items = record { items = []; end = ended.Done }

-- the lines of one caller
abbrev pub lines_by : ConnId → List Line → List Line
lines_by owner lines = filter (λ line. line.by.0 == owner.0) lines

-- lines, one after another
abbrev pub DoesLines : {L : Type 0} → BoardShown L → List Line → AtWork → AtWork → Type 0
DoesLines board [] before after = after ≡ before
DoesLines {L} board (line ∷ lines) before after =
    (cell : CellShown L) × (cell_on board line.on ≡ Some cell)
    × ((between : AtWork) × Turns cell.limit cell.form line before between × DoesLines board lines between after)

-- the departures from structures with these cells, of which the first has this number
abbrev pub DepartsEach : {L : Type 0} → ℕ → List (CellShown L) → AtWork → AtWork → Type 0
DepartsEach on [] before after = after ≡ before
DepartsEach on (cell ∷ cells) before after =
    (between : AtWork) × Departs cell.limit cell.form (record { 0 = on }) before between
    × DepartsEach (on + 1) cells between after

-- a connector departs from each structure at which it is active; the operator has no closing
abbrev pub Closes : {L : Type 0} → BoardShown L → AtWork → AtWork → Type 0
Closes board before after =
    MatchBool (before.desk.owner.0 == 0) (after ≡ before) (DepartsEach 0 board.cells before after)

-- the whole work of a caller
pub record Serves {L : Type 0} (board : BoardShown L) (lines : List Line) (before after : AtWork) : Type 0 where
  pub between : AtWork
  pub during : DoesLines board (lines_by before.desk.owner lines) before between
  pub closing : Closes board between after
