-- What is left of a script's work on one thread, before its board is closed.
use Rattle.std.specs.Prelude.{◌≡◌, ℕ, List, length, map, All}
use Rattle.plex_board.specs.PlexScript.declared.scripts.Script.{Script}
use Rattle.plex_board.specs.PlexScript.declared.transcripts.Transcript.{Transcript}
use Rattle.plex_board.specs.Serial.{connectors}
use Rattle.plex_board.specs.Desks.{DeskShown}
use Rattle.plex_board.specs.Boards.{BoardShown, IsStarted}
use Rattle.plex_board.specs.Floors.{Floor, Plays}

-- a board that was started for a script
pub record IsBoardOf {L : Type 0} (limit : ℕ) (script : Script) (board : BoardShown L) : Type 0 where
  pub forms : map (λ cell. cell.form) board.cells ≡ script.structures
  pub cells : All (IsStarted (length script.connectors) limit) board.cells
  pub callers : board.callers ≡ length script.connectors

-- the desks and the transcripts of the callers, once the script was played to its end
pub record IsPlayed {L : Type 0} (board : BoardShown L) (script : Script) (desks : List DeskShown)
    (shown : List Transcript) : Type 0 where
  pub floor : Floor
  pub plays : Plays board script.lines (connectors script) floor
  pub desks_are : desks ≡ map (λ worker. worker.desk) floor.workers
  pub shown_are : shown ≡ map (λ worker. worker.shown) floor.workers
