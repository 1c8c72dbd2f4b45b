-- A connector's closing: its departures, from one structure after another.
use Rattle.plex_agent.proofs.Imports.{◌≡◌, ℕ, suc, ◌+◌, ◌≤◌, ◌<◌, ◌==◌, Bool, true, false, List, [], ◌∷◌, ◌++◌, length, map, take, Some, None, Option, refl, sym, ap, subst, ◌∙◌, arith, append-nil, slice_get, MatchBool, nat_tests, slice_get_within, Kind, ConnId, StrNo, AnyAsk, AnyHistory, AgentEnd, Shown, shell_ask, AnyCall, is_linked, calls_on, length_on, Runs, RunsUpTo, is_linked_by, ShowsClosing, ShowsClosings, CellShown, DeskShown, pass_at, BoardShown, AtWork, Asks, Departs, is_done_as, DepartsEach, Hears, ShellCmd, Step}
use Rattle.plex_agent.proofs.Lines.{IsSetting, Owns, owns_still, Comes, comes_still}
use Rattle.plex_agent.proofs.Moves.{AreWithin, Goes, goes_then, moves_go, moves_still, hears_go}
use Rattle.plex_agent.proofs.Turns.{EndsAs, Turned, asks_turned}
use Rattle.plex_agent.proofs.{Passes.Caller, Passes.advances_none, Hearings.hears_then}

-- where a call is asked once at most, what comes before a next call is nothing
one_call_stops : (kind : Kind) (line : Option AnyAsk) (calls : List AnyCall) (by : ConnId)
    (on : StrNo) (items : List Shown) → RunsUpTo kind line calls by on (Step.Call 0) items → items ≡ []
one_call_stops kind line calls by on [] runs = refl
one_call_stops kind line calls by on (Shown.Call place number ∷ []) runs =
    let none : None ≡ Some runs.3.0 = runs.3.1 in absurd cc
one_call_stops kind line calls by on (Shown.Call place number ∷ Shown.Call place' number' ∷ items) runs =
    absurd runs.3.2
one_call_stops kind line calls by on (Shown.Call place number ∷ item ∷ items) runs = absurd runs.3
one_call_stops kind line calls by on (item ∷ items) runs = absurd runs

-- what a departure asks
abbrev pub departing : Kind → Option AnyAsk
departing kind = Some (shell_ask kind ShellCmd.Disconnect)

-- whether a caller is active at a structure, by its own calls
abbrev pub is_active : DeskShown → StrNo → Bool
is_active desk on = is_linked (pass_at desk on).calls

-- the cells are those of a board from this number on
abbrev pub AreFrom : {L : Type 0} → BoardShown L → ℕ → List (CellShown L) → Type 0
AreFrom board k cells = (j : ℕ) → slice_get cells j ≡ slice_get board.cells (k + j)

module _ {L : Type 0} (board : BoardShown L) (k : ℕ) (cell : CellShown L) (cells : List (CellShown L))
    (are : AreFrom board k (cell ∷ cells)) where
  pub from_here : slice_get board.cells k ≡ Some cell
  from_here = let none : k + 0 ≡ k = omega arith in sym (are 0 ∙ ap (slice_get board.cells) none)

  pub from_next : AreFrom board (k + 1) cells
  from_next j = let next : k + suc j ≡ k + 1 + j = omega arith in are (suc j) ∙ ap (slice_get board.cells) next

-- a departure that is made is of an active connector; no other is
abbrev pub DepartsWhole : Kind → List AnyHistory → ConnId → StrNo → Bool → List Shown → Type 0
DepartsWhole kind histories conn on linked part =
    MatchBool linked (Runs kind (departing kind) (calls_on histories on) conn on (Step.Call 0) part) (part ≡ [])

abbrev pub DepartsUpTo : Bool → List Shown → Type 0
DepartsUpTo linked part = (linked ≡ true) × (part ≡ [])

module _ {L : Type 0} (limit : ℕ) (board : BoardShown L) (me : Caller)
    (setting : IsSetting limit board me.forms me.histories) (during : List Shown) where
  -- whether the caller is active at the structures from this number on is as its lines left it
  abbrev pub AreLinked : ℕ → DeskShown → Type 0
  AreLinked k desk =
      (on : StrNo) → k ≤ on.0 → is_linked_by (calls_on me.histories on) me.conn on during ≡ is_active desk on

  -- among its departures a caller's work ended before one from an active structure
  pub record EndedAt (k : ℕ) (cells : List (CellShown L)) (part : List Shown) (on : StrNo) : Type 0 where
    pub past : ℕ
    pub at : on.0 ≡ k + past
    pub within : past < length cells
    pub closings : ShowsClosings me.histories me.conn k (take past (map (λ cell. cell.form) cells)) during part
    pub linked : is_linked_by (calls_on me.histories on) me.conn on during ≡ true

  -- how departures end: all were made; or one came to a full journal; or memory was lacking
  abbrev pub ClosingEnd : ℕ → List (CellShown L) → List Shown → AgentEnd → Type 0
  ClosingEnd k cells part AgentEnd.Done = ShowsClosings me.histories me.conn k (map (λ cell. cell.form) cells) during
      part
  ClosingEnd k cells part (AgentEnd.JournalFull on) = EndedAt k cells part on × (limit ≤ length_on me.histories on)
  ClosingEnd k cells part (AgentEnd.NoMemory cause) = (on : StrNo) × EndedAt k cells part on

  abbrev pub Departed : ℕ → List (CellShown L) → AtWork → AtWork → Type 0
  Departed k cells before after =
      Comes me (ClosingEnd k cells) (Owns me.conn before.desk × AreLinked k before.desk) before after

  -- ---- one departure

  -- how a departure ends: it was made, or not come to
  abbrev DepartEnds : Kind → StrNo → DeskShown → List Shown → AgentEnd → Type 0
  DepartEnds kind on desk = EndsAs me limit on (DepartsWhole kind me.histories me.conn on (is_active desk on))
      (DepartsUpTo (is_active desk on)) (DepartsUpTo (is_active desk on))

  ends_departing : (kind : Kind) (on : StrNo) (desk : DeskShown) (part : List Shown) (end : AgentEnd) → is_active desk
      on ≡ true → EndsAs me limit on (Runs kind (departing kind) (calls_on me.histories on) me.conn on (Step.Call 0))
      (RunsUpTo kind (departing kind) (calls_on me.histories on) me.conn on (Step.Call 0))
      (RunsUpTo kind (departing kind) (calls_on me.histories on) me.conn on (Step.Call 0)) part end
      → DepartEnds kind on desk part end
  ends_departing kind on desk part AgentEnd.Done active whole = rw active whole
  ends_departing kind on desk part (AgentEnd.JournalFull place) active (here, runs, full) =
      (here, (active, one_call_stops kind (departing kind) (calls_on me.histories on) me.conn on part runs), full)
  ends_departing kind on desk part (AgentEnd.NoMemory cause) active runs = (active, one_call_stops _ _ _ _ _ _ runs)

  abbrev DepartedOne : Kind → StrNo → AtWork → AtWork → Type 0
  DepartedOne kind on before after = Turned me limit me.conn on (DepartsWhole kind me.histories me.conn on (is_active
      before.desk on)) (DepartsUpTo (is_active before.desk on)) (DepartsUpTo (is_active before.desk on)) before after

  abbrev AsksToDepart : CellShown L → StrNo → AtWork → AtWork → Type 0
  AsksToDepart cell on before after =
      Asks cell.limit cell.form.kind (departing cell.form.kind) on (Step.Call 0) before after

  one_departs : (cell : CellShown L) (on : StrNo) (before after : AtWork) → slice_get board.cells on.0 ≡ Some cell
      → before.shown.end ≡ AgentEnd.Done → length before.desk.passes ≡ length board.cells
      → Departs cell.limit cell.form on before after → DepartedOne cell.form.kind on before after
  one_departs cell on before after there going long departs = by_link (is_active before.desk on) refl made
    where
      made : MatchBool (is_active before.desk on) (AsksToDepart cell on before after) (after ≡ before)
      made = grind arith

      by_link : (b : Bool) → is_active before.desk on ≡ b → MatchBool
          b (AsksToDepart cell on before after) (after ≡ before) → DepartedOne cell.form.kind on before after
      by_link true active asks =
          let turned = asks_turned me limit cell.form.kind (departing cell.form.kind) on me.conn (Step.Call 0) before
          (setting.rise on) (omega (arith, slice_get_within board.cells on.0 cell there, long)) after
          (subst (λ n. Asks n cell.form.kind (departing cell.form.kind) on (Step.Call 0) before after)
          (setting.limits on.0 cell there) asks) in
          record {
            part = turned.part;
            moves = turned.moves;
            shows = λ owner within. ends_departing _ _ before.desk _ _ active (turned.shows owner within);
          }
      by_link false inactive same =
          let open' = ap (λ w. w.shown.end) same ∙ going in
          record {
            part = [];
            moves = moves_still _ _ _ _ _ (ap (λ w. w.desk) same)
                (ap (λ w. w.shown.items) same ∙ sym (append-nil before.shown.items)) (advances_none _ _ _);
            shows = λ owner within. subst (DepartEnds cell.form.kind on before.desk []) (sym open') (rw inactive refl);
          }

  -- ---- one after another

  abbrev place : ℕ → StrNo
  place k = record { 0 = k }

  pub departs_rest : (k : ℕ) (cells : List (CellShown L)) (before after : AtWork)
      → is_done_as before.shown.end ≡ false → DepartsEach k cells before after → Hears before after
  departs_rest k [] before after stopped hears = hears
  departs_rest k (cell ∷ cells) before after stopped (between, (ready, hears, one), rest) =
      let still = ap (λ t. is_done_as t.end) hears.shown ∙ stopped in
      let same = rw still at one in
      hears_then _ _ _ (subst (Hears before) (sym same) hears)
      (departs_rest (k + 1) cells between after (ap (λ w. is_done_as w.shown.end) same ∙ still) rest)

  -- one departure before others
  closing_then : (k : ℕ) (cell : CellShown L) (cells : List (CellShown L)) (desk : DeskShown)
      (part more : List Shown) (end : AgentEnd)
      → AreLinked k desk → DepartsWhole cell.form.kind me.histories me.conn (place k) (is_active desk (place k)) part
      → ClosingEnd (k + 1) cells more end → ClosingEnd k (cell ∷ cells) (part ++ more) end
  closing_then k cell cells desk part more end links whole rest = by_end end rest
    where
      shows : ShowsClosing cell.form (calls_on me.histories (place k)) me.conn (place k) during part
      shows = rw (links (place k) (omega arith)) whole

      behind : (on : StrNo) → EndedAt (k + 1) cells more on → EndedAt k (cell ∷ cells) (part ++ more) on
      behind on rest = record {
        past = suc rest.past;
        at = omega (arith, rest.at);
        within = omega (arith, rest.within);
        closings = (part, (more, refl, shows, rest.closings));
        linked = rest.linked;
      }

      by_end : (end : AgentEnd) → ClosingEnd (k + 1) cells more end → ClosingEnd k (cell ∷ cells) (part ++ more) end
      by_end AgentEnd.Done rest = (part, (more, refl, shows, rest))
      by_end (AgentEnd.JournalFull on) rest = (behind on rest.0, rest.1)
      by_end (AgentEnd.NoMemory cause) rest = (rest.0, behind rest.0 rest.1)

  ended_at_once : (k : ℕ) (cell : CellShown L) (cells : List (CellShown L)) (desk : DeskShown) (part : List Shown)
      → AreLinked k desk → DepartsUpTo (is_active desk (place k)) part → EndedAt k (cell ∷ cells) part (place k)
  ended_at_once k cell cells desk part links (linked, none) = record {
    past = 0;
    at = omega arith;
    within = omega arith;
    closings = none;
    linked = links (place k) (omega arith) ∙ linked;
  }

  pub departs_play : (k : ℕ) (cells : List (CellShown L)) (before after : AtWork)
      → AreFrom board k cells → before.shown.end ≡ AgentEnd.Done → length before.desk.passes ≡ length board.cells
      → DepartsEach k cells before after → Departed k cells before after
  departs_play k [] before after are going long hears = record {
    part = [];
    goes = hears_go _ _ _ hears;
    shows = λ given within. subst (ClosingEnd k [] []) (sym (ap (λ t. t.end) hears.shown ∙ going)) refl;
  }
  departs_play k (cell ∷ cells) before after are going long (between, (ready, hears, one), rest) =
      by_end between.shown.end refl (λ open'. departs_play (k + 1)
      cells between after (from_next board k cell cells are) open' (turned.moves.passes ∙ ready_long) rest)
    where
      there : slice_get board.cells k ≡ Some cell
      there = from_here board k cell cells are

      heard : Goes me before ready []
      heard = hears_go _ _ _ hears

      ready_long : length ready.desk.passes ≡ length board.cells
      ready_long = hears.passes ∙ long

      turned : DepartedOne cell.form.kind (place k) ready between
      turned = one_departs _ _ _ _ there (ap (λ t. t.end) hears.shown ∙ going) ready_long one

      first : Goes me before between turned.part
      first = goes_then _ _ _ _ _ _ heard (moves_go _ _ _ _ _ turned.moves)

      inside : k < length ready.desk.passes
      inside = omega (arith, slice_get_within board.cells k cell there, ready_long)

      ends : Owns me.conn before.desk → AreWithin me between.desk
          → DepartEnds cell.form.kind (place k) ready.desk turned.part between.shown.end
      ends owns within = turned.shows (owns_still _ _ _ _ heard owns (place k) inside) (within (place k))

      -- to hear of others changes nothing of where the caller is active
      links_ready : AreLinked k before.desk → AreLinked k ready.desk
      links_ready links on past = grind arith

      still : (end : AgentEnd) → between.shown.end ≡ end → is_done_as end ≡ false
          → (AreLinked k ready.desk → DepartEnds cell.form.kind (place k) ready.desk turned.part end
          → ClosingEnd k (cell ∷ cells) turned.part end) → Departed k (cell ∷ cells) before after
      still end is stopped shows = comes_still _ _ _ _ _ _ _ first
          _ is (departs_rest _ _ _ _ (ap is_done_as is ∙ stopped) rest) (λ given within. shows (links_ready given.1)
          (subst (DepartEnds cell.form.kind (place k) ready.desk turned.part) is (ends given.0 within)))

      links_behind : AreLinked k ready.desk → AreLinked (k + 1) between.desk
      links_behind links on past =
          let apart : k == on.0 ≡ false = grind (arith, nat_tests) in
          links on (omega (arith, past)) ∙ ap (λ t. is_linked t)
          (ap (λ p. p.calls) (sym (turned.moves.rest on apart)))

      by_end : (end : AgentEnd) → between.shown.end ≡ end → (between.shown.end ≡ AgentEnd.Done
          → Departed (k + 1) cells between after) → Departed k (cell ∷ cells) before after
      by_end AgentEnd.Done is later =
          let others = later is in
          record {
            part = turned.part ++ others.part;
            goes = goes_then _ _ _ _ _ _ first others.goes;
            shows = λ given within. closing_then k cell cells ready.desk turned.part others.part after.shown.end
                (links_ready given.1) (subst (DepartEnds cell.form.kind (place k) ready.desk turned.part)
                is (ends given.0 (others.goes.back within))) (others.shows (
                grind (arith, owns_still, first, links_behind, links_ready)) within);
          }
      by_end (AgentEnd.JournalFull on) is later = still (AgentEnd.JournalFull on) is
          refl (λ links ends. subst (λ o. EndedAt k (cell ∷ cells) turned.part o × (limit ≤ length_on me.histories o))
          (sym ends.0) (ended_at_once k cell cells ready.desk turned.part links ends.1, ends.2))
      by_end (AgentEnd.NoMemory cause) is later = still (AgentEnd.NoMemory cause)
          is refl (λ links ends. (place k, ended_at_once k cell cells ready.desk turned.part links ends))
