-- The callers of a board, each at work on its own: as they begin, and what their work shows.
use Rattle.plex_agent.proofs.Imports.{◌≡◌, ℕ, ◌+◌, ◌≤◌, ◌<◌, List, length, Some, slice_get, get_or, sym, ap, subst, ◌∙◌, arith, All, range_with_len, All-map, All-same, All-weaker, length-range_with_len, get_or-range_with_len, CONNECTORS, AnyHistory, Line, Script, Transcript, ShowsHistories, DeskShown, BoardShown, AreClosed, new_desk, AtWork, IsLineFor, no_items, new_desk-of_board, AreCallersOf, IsPlayable, IsBoardOf, IsIdle, IsServed, WorkEach, idle_worker, crew_of}
use Rattle.plex_board.specs.Callers.{Serves}
use Rattle.plex_agent.proofs.RunLaws.{HadMemory, had_memory}
use Rattle.plex_agent.proofs.{ServeLaw.serves_right, Alone.alone_serves, SeatedLaws.crew_at, SeatedLaws.new_callers}

-- the callers have desks of the board
pub crew_is_idle : {L : Type 0} (board : BoardShown L) (crew : List AtWork) → crew ≡ crew_of board
    → board.callers ≤ CONNECTORS → All (IsIdle board) crew
crew_is_idle board crew new few =
    let n = board.callers + 1 in
    All-same (IsIdle board) crew (crew_of board) new
    (All-map (IsIdle board) (λ owner. idle_worker (new_desk board owner)) (range_with_len 0 n)
    (λ k d lt. (new_desk-of_board board (get_or (range_with_len 0 n) k d), within k d lt)))
  where
    within : (k d : ℕ) → k < length (range_with_len 0 (board.callers + 1))
        → get_or (range_with_len 0 (board.callers + 1)) k d ≤ CONNECTORS
    within k d lt = grind (arith, length-range_with_len, get_or-range_with_len)

-- a line that a caller may play is a line for the board
pub lines_fit : {L : Type 0} (board : BoardShown L) (lines played : List Line) → lines ≡ played
    → All (IsPlayable board) played → All (IsLineFor board) lines
lines_fit board lines played same playable = All-same (IsLineFor board) lines played same
    (All-weaker (IsPlayable board) (IsLineFor board) (λ line playable. playable.right) played playable)

-- the callers that came to the board worked
pub work_each : {L : Type 0} (board : BoardShown L) (lines all : List Line) (crew workers : List AtWork) → lines ≡ all
    → crew ≡ crew_of board → WorkEach board lines crew workers → WorkEach board all (crew_of board) workers
work_each board lines all crew workers lines_are new worked = grind arith

module _ {L : Type 0} (board : BoardShown L) (lines : List Line) (workers : List AtWork)
    (worked : WorkEach board lines (crew_of board) workers) where
  -- each is at its own desk still
  pub worked-callers : AreCallersOf board workers
  worked-callers = grind (arith, new_callers, crew_at)

  serves : (c : ℕ) (worker : AtWork) → slice_get workers c ≡ Some worker
      → Serves board lines (record { desk = new_desk board c; shown = no_items }) worker
  serves c worker there = grind (arith, crew_at)

-- whatever the schedule was, what the callers were shown goes with the histories of the closed board
pub served_shows : {L : Type 0} (limit : ℕ) (script : Script) (board : BoardShown L) (histories : List AnyHistory)
    (desks : List DeskShown) (shown : List Transcript) → IsBoardOf limit script board → IsServed board script.lines
    desks shown → AreClosed board desks histories → HadMemory shown → ShowsHistories limit script histories shown
served_shows limit script board histories desks shown is served closed had =
    let lines = script.lines in
    subst (ShowsHistories limit script histories) (sym served.shown_are) (serves_right limit script board
    histories served.workers is.forms is.cells (subst (λ desks. AreClosed board desks histories)
    served.desks_are closed) ((worked-callers board lines served.workers served.work).callers ∙ ap (λ n. n + 1)
    is.callers) (λ c worker there. alone_serves board lines (record { desk = new_desk board c; shown = no_items })
    worker (serves board lines served.workers served.work c worker there))
    (had_memory served.workers (subst HadMemory served.shown_are had)))
