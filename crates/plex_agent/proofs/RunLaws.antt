-- A script that may be run, and the board that was started for it.
use Rattle.plex_agent.proofs.Imports.{Vec, Global, ◌≡◌, ◌≢◌, ℕ, ◌≤◌, List, length, map, Option, Result, Ok, Err, IfOk, IsOkAnd, All, slice_get, refl, sym, ◌∙◌, ap, subst, arith, length-map, get_or-map, Kind, StrForm, NoMemory, CfId, ConnId, Telling, TellsEnough, AnyAsk, Act, Line, Script, AnyHistory, Transcript, IsRunnable, IsRunnableLine, IsRunnableAct, AreTelling, AreRunLinks, serial_run, type_of_kind, type_of_ask, CellShown, DeskShown, BoardShown, IsStarted, AreClosed, AreLinksAsked, links_of, AtWork, MayAct, Finished, IsPlayable, IsBoardOf, IsPlayed, ShowsHistories, AgentEnd, want}
use Rattle.plex_board.specs.RunShown.Kinds.{IsAskOf}
use Rattle.plex_agent.proofs.Lookups.{get_mapped, all_get}
use Rattle.plex_agent.proofs.{ExactLaw.exact, LinkRuns.run_links, LinkRuns.run_told, Schedules.serial_shows}

-- ---- lines

-- an ask of a kind is one of that kind's type
ask_type : (kind : Kind) (asked : AnyAsk) → IsAskOf kind asked → type_of_ask asked ≡ type_of_kind kind
ask_type Kind.Cache (AnyAsk.Cache asked) is = refl
ask_type (Kind.List headers locks refs) (AnyAsk.List asked) is = refl
ask_type Kind.Lock (AnyAsk.Lock asked) is = refl
ask_type kind asked is = absurd is

-- what a script's line does, its caller may do at the structure that was started for it
may_act : {L : Type 0} (cell : CellShown L) (form : StrForm) (by : ConnId) (a : Act) → cell.form ≡ form
    → cell.str_type ≡ type_of_kind cell.form.kind → IsRunnableAct form by a → MayAct cell by a
may_act cell form by (Act.Call asked) form_is type_is may = grind (arith, ask_type)
may_act cell form by (Act.Test index) form_is type_is may = may.0
may_act cell form by (Act.TestWord word) form_is type_is may = may.0
may_act cell form by done form_is type_is may = tt

-- a line of the script can be played at the board that was started for it
line_playable : {L : Type 0} (limit : ℕ) (script : Script) (board : BoardShown L) (line : Line)
    → IsBoardOf limit script board → IsRunnableLine script line → IsPlayable board line
line_playable {L} limit script board line is may =
    let found = get_mapped (λ (cell : CellShown L). cell.form) board.cells line.on.0 may.form
    (ap (λ (l : List StrForm). slice_get l line.on.0) is.forms ∙ may.known) in
    let started : IsStarted (length script.connectors) limit found.0 =
    all_get (IsStarted (length script.connectors) limit) board.cells line.on.0 found.0 is.cells found.1 in
    record {
      right = record {
        cell = found.0;
        there = found.1;
        may = may_act found.0 may.form line.by line.act found.2 started.type_is may.act;
      };
      caller = subst (λ (n : ℕ). line.by.0 ≤ n) (sym is.callers) may.caller;
    }

pub lines_playable : {L : Type 0} (limit : ℕ) (script : Script) (board : BoardShown L) → IsBoardOf limit script board
    → IsRunnable script → All (IsPlayable board) script.lines
lines_playable limit script board is may = λ k d below. line_playable limit script board _ is (may.lines k d below)

-- ---- what is left

-- nobody's work ended for want of memory
abbrev pub HadMemory : List Transcript → Type 0
HadMemory transcripts = All (λ (transcript : Transcript). transcript.end ≢ AgentEnd.NoMemory want) transcripts

-- what holds of the histories, and of what was shown where nobody lacked memory, holds of a run that is left
pub finished_is : (finished : Result Finished NoMemory) (shown : Result (Vec Transcript Global) NoMemory)
    (histories : List AnyHistory) (Shows : List Transcript → Type 0)
    (Holds : List AnyHistory → List Transcript → Type 0) → IfOk finished (λ it. it.histories ≡ histories)
    → IfOk finished (λ it. IsOkAnd shown (λ some. it.transcripts ≡ some.items)) → IfOk finished (λ it. HadMemory
    it.transcripts) → IfOk shown (λ some. Shows some.items) → ((transcripts : List Transcript) → Shows transcripts
    → HadMemory transcripts → Holds histories transcripts) → IfOk finished (λ it. Holds it.histories it.transcripts)
finished_is (Ok it) (Ok some) histories Shows Holds same items had shows law = grind arith
finished_is (Ok it) (Err e) histories Shows Holds same items had shows law = absurd items
finished_is (Err e) shown histories Shows Holds same items had shows law = tt

pub had_memory : (workers : List AtWork) → HadMemory (map (λ worker. worker.shown) workers)
    → All (λ (worker : AtWork). worker.shown.end ≢ AgentEnd.NoMemory want) workers
had_memory workers had k d below = subst (λ (transcript : Transcript). transcript.end ≢ AgentEnd.NoMemory want)
    (get_or-map (λ (worker : AtWork). worker.shown) workers k d d.shown below)
    (had k d.shown (omega (arith, below, length-map workers (λ (worker : AtWork). worker.shown))))

module _ {L : Type 0} (limit : ℕ) (script : Script) (board : BoardShown L) (histories : List AnyHistory)
    (is : IsBoardOf limit script board) where
  module _ (calls : L → Option ℕ) (downs : L → Option (List ℕ)) (faults : L → ℕ)
      (enough : (link : L) → TellsEnough (calls link) (downs link)) (old new : List L) (old_are : links_of board ≡ old)
      (asked : AreLinksAsked calls downs faults board histories new) where
    -- the links of the script's structures were asked as the histories tell
    pub links_asked : (desks : List DeskShown) → AreClosed board desks histories
        → AreRunLinks calls downs faults script.structures histories old new
    links_asked desks closed = run_links calls downs faults enough board script.structures
        histories old new old_are is.forms asked (λ x cell entries there kept. (let its =
        (closed.closed (record { 0 = x }) cell entries there kept).0 in its.legal))

    -- where they tell which calls are down, what was played is the script's run over such links
    pub played_exact : (desks : List DeskShown) (shown : List Transcript) → IsRunnable script
        → IsPlayed board script desks shown → AreClosed board desks histories → HadMemory shown
        → (told : ℕ → CfId → Telling) → AreTelling calls downs faults told (length script.structures) old →
        (histories ≡ (serial_run limit told script).histories) × (shown ≡ (serial_run limit told script).transcripts)
    played_exact desks shown may played closed had told telling =
        let law = exact limit told script board played.floor histories may is
        (subst (λ (ds : List DeskShown). AreClosed board ds histories) played.desks_are closed) (run_told
        calls downs faults enough board script.structures histories old new old_are is.forms asked told telling)
        played.plays (had_memory played.floor.workers (subst HadMemory played.shown_are had)) in
        (law.0, played.shown_are ∙ law.1)

  -- what it shows, with the histories of the closed board
  pub played_shows : (desks : List DeskShown) (shown : List Transcript) → IsRunnable script → IsPlayed board script
      desks shown → AreClosed board desks histories → HadMemory shown → ShowsHistories limit script histories shown
  played_shows desks shown may played closed had =
      let playable : All (IsPlayable board) script.lines = lines_playable limit script board is may in
      subst (λ (ts : List Transcript). ShowsHistories limit script histories ts) (sym played.shown_are)
      (serial_shows limit script board played.floor histories is.forms is.cells is.callers
      (λ k d below. (playable k d below).caller) played.plays (grind (arith, had_memory))
      (subst (λ (ds : List DeskShown). AreClosed board ds histories) played.desks_are closed))
