-- What goes with a board, of a floor: its callers at work, its tray, and who acted last; and what a caller does there.
use Rattle.std.specs.Prelude.{◌≡◌, ℕ, ◌+◌, ◌≤◌, List, length, map, slice_get, Some, All}
use Rattle.std.specs.List.{range_with_len}
use Rattle.plex_board.specs.CfTypes.declared.limits.TheConstants.{CONNECTORS}
use Rattle.plex_board.specs.CfTypes.declared.numbers.ConnId.{ConnId}
use Rattle.plex_board.specs.PlexScript.declared.scripts.Act.{Act}
use Rattle.plex_board.specs.PlexScript.declared.scripts.Act.TheVariants as act
use Rattle.plex_board.specs.PlexScript.declared.scripts.Line.{Line}
use Rattle.plex_board.specs.RunShown.Kinds.{numbers_from}
use Rattle.plex_board.specs.Cells.{CellShown}
use Rattle.plex_board.specs.Desks.{DeskShown}
use Rattle.plex_board.specs.Boards.{BoardShown, IsDeskOf, IsTrayOf, cell_on}
use Rattle.plex_board.specs.Turns.{AtWork, Turns}
use Rattle.plex_board.specs.Callers.{IsLineFor}
use Rattle.plex_board.specs.Floors.{Floor, PlaysAct, worker_of, with_worker}

-- ---- what goes with a board

-- the desks of all callers of a board, from the operator's on
pub record AreDesksOf {L : Type 0} (board : BoardShown L) (desks : List DeskShown) : Type 0 where
  pub fit : All (IsDeskOf board) desks
  pub owners : map (λ desk. desk.owner.0) desks ≡ range_with_len 0 (board.callers + 1)

-- all callers of a board, from the operator on, each at its own desk
pub record AreCallersOf {L : Type 0} (board : BoardShown L) (workers : List AtWork) : Type 0 where
  pub callers : length workers ≡ board.callers + 1
  pub each : (c : ℕ) (worker : AtWork) → slice_get workers c ≡ Some worker
      → IsDeskOf board worker.desk × (worker.desk.owner.0 ≡ c)

pub record IsFloorOf {L : Type 0} (board : BoardShown L) (floor : Floor) : Type 0 where
  pub workers : AreCallersOf board floor.workers
  pub few : board.callers ≤ CONNECTORS
  pub tray : IsTrayOf board floor.tray
  pub places : length floor.last ≡ length board.cells
  pub actors : (x : ℕ) (conn : ConnId) → slice_get floor.last x ≡ Some (Some conn) → conn.0 ≤ board.callers

-- ---- what a caller does

-- a line that a caller of the board may do
pub record IsPlayable {L : Type 0} (board : BoardShown L) (line : Line) : Type 0 where
  pub right : IsLineFor board line
  pub caller : line.by.0 ≤ board.callers

-- whether the act is a caller's turn at its structure: all but POST and TAKE, which go by the tray
abbrev pub IsTurn : Act → Type 0
IsTurn (act.Call asked) = Unit {0}
IsTurn act.Events = Unit {0}
IsTurn (act.Test index) = Unit {0}
IsTurn (act.TestWord word) = Unit {0}
IsTurn act.Post = ⊥
IsTurn act.Take = ⊥

-- the caller of a line takes its turn at the line's structure, and nobody else does anything
pub record TakesTurn {L : Type 0} (board : BoardShown L) (line : Line) (before after : Floor) : Type 0 where
  pub cell : CellShown L
  pub there : cell_on board line.on ≡ Some cell
  pub worker : AtWork
  pub turned : Turns cell.limit cell.form line (worker_of before line.by) worker
  pub others : after ≡ with_worker line.by worker before

-- the caller of a line does this at the line's structure
pub record PlaysActOn {L : Type 0} (board : BoardShown L) (line : Line) (does : Act) (before after : Floor) : Type 0
  where
    pub cell : CellShown L
    pub there : cell_on board line.on ≡ Some cell
    pub played : PlaysAct cell line does before after

-- so many connectors in number order, of which the first has this number
abbrev pub conns_from : ℕ → ℕ → List ConnId
conns_from first count = map (λ (number : ℕ). (let conn : ConnId = record { 0 = number } in conn))
    (numbers_from first count)
