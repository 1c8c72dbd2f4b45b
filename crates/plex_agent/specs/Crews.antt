-- The callers of a script at work, each at its own desk.
use Rattle.std.specs.Prelude.{◌≡◌, ℕ, ◌+◌, List, slice_get, length, map, Some}
use Rattle.std.specs.List.{range_with_len}
use Rattle.plex_board.specs.CfTypes.Forms.{IsCaller}
use Rattle.plex_board.specs.PlexScript.declared.scripts.Line.{Line}
use Rattle.plex_board.specs.PlexScript.declared.transcripts.Transcript.{Transcript}
use Rattle.plex_board.specs.Desks.{DeskShown}
use Rattle.plex_board.specs.Boards.{BoardShown, IsDeskOf, new_desk}
use Rattle.plex_board.specs.Turns.{AtWork}
use Rattle.plex_board.specs.Callers.{Serves, no_items}

-- a caller that was shown nothing yet
abbrev pub idle_worker : DeskShown → AtWork
idle_worker desk = record { desk = desk; shown = no_items }

-- the callers of a board, from the operator on, none of which has done anything
abbrev pub crew_of : {L : Type 0} → BoardShown L → List AtWork
crew_of board = map (λ owner. idle_worker (new_desk board owner)) (range_with_len 0 (board.callers + 1))

-- a caller at a desk of this board
abbrev pub IsIdle : {L : Type 0} → BoardShown L → AtWork → Type 0
IsIdle board worker = IsDeskOf board worker.desk × IsCaller worker.desk.owner

-- a caller does its whole work at its desk, which stays its own
pub record Works {L : Type 0} (board : BoardShown L) (lines : List Line) (before after : AtWork) : Type 0 where
  pub serves : Serves board lines (idle_worker before.desk) after
  pub of_board : IsDeskOf board after.desk
  pub owner : after.desk.owner ≡ before.desk.owner

-- each caller does its whole work
pub record WorkEach {L : Type 0} (board : BoardShown L) (lines : List Line) (before after : List AtWork) : Type 0
  where
    pub callers : length after ≡ length before
    pub each : (c : ℕ) (worker : AtWork) → slice_get after c ≡ Some worker
        → (idler : AtWork) × (slice_get before c ≡ Some idler) × Works board lines idler worker

-- the desks and the transcripts of the callers, once each did its whole work
pub record IsServed {L : Type 0} (board : BoardShown L) (lines : List Line) (desks : List DeskShown)
    (shown : List Transcript) : Type 0 where
  pub workers : List AtWork
  pub work : WorkEach board lines (crew_of board) workers
  pub desks_are : desks ≡ map (λ worker. worker.desk) workers
  pub shown_are : shown ≡ map (λ worker. worker.shown) workers
