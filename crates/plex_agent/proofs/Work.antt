-- The whole work of a caller: its lines, and then its closing.
use Rattle.plex_agent.proofs.Imports.{◌≡◌, ◌≢◌, ℕ, zero, suc, ◌<◌, ◌==◌, Bool, true, false, List, [], ◌∷◌, ◌++◌, length, map, get_or, refl, sym, ap, subst, ◌∙◌, arith, append-nil, MatchBool, length-map, nat_tests, ConnId, AnyHistory, Script, AgentEnd, AnyCall, own_calls, is_linked, calls_on, AgreesWith, ShowsLines, lines_of, numbers_on, PassShown, unused_pass, CellShown, no_pass, pass_at, BoardShown, AtWork, is_done_as, Serves, DepartsEach, Hears, WorkEnds, beginner, each_none}
use Rattle.plex_agent.proofs.Closings.{ClosingEnd, Departed, AreLinked, departs_rest, departs_play}
use Rattle.plex_agent.proofs.Lines.{IsSetting, Owns, owns_still, Played, LinesEnd, own_lines, lines_play, Comes, comes_still}
use Rattle.plex_agent.proofs.Moves.{AreWithin, IsTranscript, goes_then}
use Rattle.plex_agent.proofs.{Fronts.take_front, Lookups.any_map, Passes.Caller, Passes.IsGood}
use Rattle.plex_agent.proofs.Passes.{IsShown}

-- ---- how a caller begins

module _ {L : Type 0} (conn : ConnId) where
  new_owner : (cells : List (CellShown L)) (i : ℕ) → i < length cells
      → (get_or (map (λ cell. unused_pass cell.str_type cell.words conn.0) cells) i no_pass).owner ≡ conn
  new_owner [] i within = absurd (omega arith)
  new_owner (cell ∷ cells) zero within = refl
  new_owner (cell ∷ cells) (suc i) within = new_owner cells i (omega arith)

  no_calls_yet : (cells : List (CellShown L)) (i : ℕ)
      → (get_or (map (λ cell. unused_pass cell.str_type cell.words conn.0) cells) i no_pass).calls ≡ []
  no_calls_yet cells = any_map (λ (pass : PassShown). pass.calls ≡ []) no_pass _ cells refl (λ cell. refl)

pub begins_long : {L : Type 0} (board : BoardShown L) (conn : ConnId)
    → length (beginner board conn).desk.passes ≡ length board.cells
begins_long {L} board conn = length-map board.cells (λ cell. unused_pass cell.str_type cell.words conn.0)

pub begins_owning : {L : Type 0} (board : BoardShown L) (conn : ConnId) → Owns conn (beginner board conn).desk
begins_owning board conn on within = new_owner conn board.cells on.0 (omega (arith, within, begins_long board conn))

pub begins_shown : {L : Type 0} (board : BoardShown L) (me : Caller) → IsTranscript me (beginner board me.conn)
begins_shown board me = record {
  shows = λ on. record {
    numbers = sym (ap (map (λ (call : AnyCall). call.no)) (no_calls_yet me.conn board.cells on.0));
    seen = omega arith;
    sure = omega arith;
    reached = omega arith;
  };
  each = each_none (IsGood me);
}

-- ---- how it ends

abbrev pub caller_of : Script → List AnyHistory → ConnId → Caller
caller_of script histories conn = record { forms = script.structures; histories = histories; conn = conn }

module _ {L : Type 0} (limit : ℕ) (board : BoardShown L) (script : Script)
    (histories : List AnyHistory) (conn : ConnId) (setting : IsSetting limit board script.structures histories)
    (forms_are : map (λ cell. cell.form) board.cells ≡ script.structures) where
  abbrev me : Caller
  me = caller_of script histories conn

  abbrev pub Finished : AtWork → Type 0
  Finished worker = Comes me (λ part end. AgreesWith histories conn part
      → WorkEnds limit script histories conn part end) (Unit {0}) (beginner board conn) worker

  module _ (between worker : AtWork)
      (played : Played limit board me setting (lines_of script conn) (beginner board conn) between) where
    -- what the lines show, where the work went on
    lines_shown : between.shown.end ≡ AgentEnd.Done → AreWithin me between.desk
        → ShowsLines script.structures histories (lines_of script conn) played.part
    lines_shown going within = grind (arith, LinesEnd, begins_owning)

    operator_ends : between.shown.end ≡ AgentEnd.Done → Hears between worker → conn.0 == 0 ≡ true → Finished worker
    operator_ends going later operator = comes_still me _ _ (beginner board conn) between
        worker played.part played.goes AgentEnd.Done going later (grind (arith, append-nil, lines_shown))

    stopped_ends : (end : AgentEnd) → between.shown.end ≡ end → is_done_as end ≡ false → Hears between worker
        → Finished worker
    stopped_ends end is stopped later = comes_still me _ _ (beginner board conn) between worker
        played.part played.goes end is later (λ given within agrees. by_end end stopped agrees (subst (LinesEnd limit
        board me setting (lines_of script conn) played.part) is (played.shows (begins_owning board conn) within)))
      where
        by_end : (end : AgentEnd) → is_done_as end ≡ false → AgreesWith histories conn played.part
            → LinesEnd limit board me setting (lines_of script conn) played.part end
            → WorkEnds limit script histories conn played.part end
        by_end AgentEnd.Done stopped agrees ends = absurd cc
        by_end (AgentEnd.JournalFull on) stopped agrees ends = grind arith
        by_end (AgentEnd.NoMemory cause) stopped agrees ends = grind arith

    -- a connector's departures
    module _ (going : between.shown.end ≡ AgentEnd.Done) (connector : conn.0 == 0 ≡ false)
        (departed : Departed limit board me setting played.part 0 board.cells between worker) where
      links : AreWithin me between.desk → AreLinked limit board me setting played.part 0 between.desk
      links within on past =
          let is : IsTranscript me between = played.goes.forth within (begins_shown board me) in
          let pass : PassShown = pass_at between.desk on in
          let here : IsShown on pass between.shown.items = is.shows on in
          let numbers : numbers_on on played.part ≡ map (λ (call : AnyCall). call.no) pass.calls =
          ap (numbers_on on) (sym played.goes.items) ∙ here.numbers in
          let count : length (numbers_on on played.part) ≡ length pass.calls =
          ap length numbers ∙ length-map pass.calls (λ (call : AnyCall). call.no) in
          ap is_linked (take_front (length (numbers_on on played.part))
          pass.calls (own_calls (calls_on histories on) conn) count (within on).calls)

      not_operator : conn.0 ≢ 0
      not_operator = grind (arith, nat_tests)

      by_end : (end : AgentEnd) → ShowsLines script.structures histories (lines_of script conn) played.part
          → ClosingEnd limit board me setting played.part 0 board.cells departed.part end → AgreesWith histories conn
          (played.part ++ departed.part) → WorkEnds limit script histories conn (played.part ++ departed.part) end
      by_end AgentEnd.Done lines closing agrees = grind arith
      by_end (AgentEnd.JournalFull on) lines (closing, full) agrees = grind (arith, length-map, not_operator)
      by_end (AgentEnd.NoMemory cause) lines (on, closing) agrees =
          let past : closing.past ≡ on.0 = omega (arith, closing.at) in
          let size = length-map board.cells (λ (cell : CellShown L). cell.form) in
          record {
            at = grind (arith, not_operator);
            agrees = agrees;
          }

      connector_ends : Finished worker
      connector_ends = record {
        part = played.part ++ departed.part;
        goes = goes_then me (beginner board conn) between worker played.part departed.part played.goes departed.goes;
        shows = λ given within agrees. by_end worker.shown.end (lines_shown going (departed.goes.back within))
            (grind (arith, owns_still, begins_owning, links)) agrees;
      }

    closes : MatchBool (conn.0 == 0) (Hears between worker) (DepartsEach 0 board.cells between worker) → Finished worker
    closes closing = by_end between.shown.end refl
      where
        by_owner : (b : Bool) → conn.0 == 0 ≡ b → between.shown.end ≡ AgentEnd.Done
            → MatchBool b (Hears between worker) (DepartsEach 0 board.cells between worker) → Finished worker
        by_owner true operator going hears = operator_ends going hears operator
        by_owner false connector going departs = connector_ends going connector (
            grind (arith, departs_play, begins_long))

        still : (b : Bool) → MatchBool b (Hears between worker) (DepartsEach 0 board.cells between worker)
            → is_done_as between.shown.end ≡ false → Hears between worker
        still true hears stopped = hears
        still false departs stopped =
            departs_rest limit board me setting played.part 0 board.cells between worker stopped departs

        by_end : (end : AgentEnd) → between.shown.end ≡ end → Finished worker
        by_end AgentEnd.Done going = by_owner (conn.0 == 0) refl going closing
        by_end (AgentEnd.JournalFull on) is =
            stopped_ends (AgentEnd.JournalFull on) is refl (still (conn.0 == 0) closing (ap is_done_as is))
        by_end (AgentEnd.NoMemory cause) is = stopped_ends (AgentEnd.NoMemory cause) is refl
            (still (conn.0 == 0) closing (ap is_done_as is))

  pub finishes : (worker : AtWork) → Serves board script.lines (beginner board conn) worker → Finished worker
  finishes worker serves =
      let played : Played limit board me setting (lines_of script conn) (beginner board conn) serves.between =
      lines_play limit board me setting (lines_of script conn) (beginner board conn) serves.between refl
      (begins_long board conn) (own_lines conn script.lines) serves.during in
      closes serves.between worker played serves.closing
