-- The law of a script's work at one board on one thread: the callers were shown what the run by the machine alone
-- shows, and the histories that the closed structures left are the run's.
use Rattle.plex_agent.proofs.Imports.{same_lists, IsBoardOf, ◌≡◌, ◌≢◌, ℕ, ◌≤◌, ◌<◌, List, [], length, map, fold, slice_get, Some, sym, ap, subst, ◌∙◌, arith, append-nil, All, length-map, get_or-map, slice_get-map, slice_get-get_or, CfId, ConnId, Telling, AnyHistory, Script, any_calls, any_length, own_calls, AreAnyAsTold, end_of, calls_rise, same_calls, take_all, end_length, Run, start, connectors, after_line, after_closing, serial_run, IsRunnable, CellShown, IsAnyTold, pass_at, BoardShown, IsStarted, IsAccount, AreClosed, Floor, Plays, worker_of, no_worker, zero, suc, ◌+◌, false, replicate, Option, None, refl, get_or-replicate, length-replicate, length-map-range_with_len, get_or-map-range_with_len, All-nil, All-weaker, get_or_from_slice_get, get_within, StrForm, Kind, AreMadeBelow, AnyCall, no_calls, numbers_from, any_numbers, take_none, unused_pass, no_pass, new_desk, IsClosed, no_items, new_floor, AgentEnd, want}
use Rattle.plex_agent.proofs.LineTurns.{lines_go, IsStageOf, of_all, of_none, TurnGoes, turn_then}
use Rattle.plex_agent.proofs.Lookups.{some_same, all_get, kind_of_type}
use Rattle.plex_agent.proofs.Spots.{conn, str, Spot, IsKnownPass}
use Rattle.plex_agent.proofs.Stages.{Stage, IsStage, State, Known, Fits, Agrees, Goes}
use Rattle.plex_agent.proofs.Workers.{IsFloor, IsWorker}
use Rattle.plex_agent.proofs.{Agreements.AgreesAt, ExactClosings.closes_all}

list_same : {X : Type 0} (xs ys : List X) → length xs ≡ length ys
    → ((i : ℕ) → i < length xs → slice_get xs i ≡ slice_get ys i) → xs ≡ ys
list_same xs ys size same = grind (arith, same_lists, some_same, slice_get-get_or)

ruleset new_lists =
    (length-map-range_with_len, length-replicate, get_or-map-range_with_len, length-map, get_or-replicate)

conns_within : (most first n : ℕ) → first + n ≤ most + 1
    → All (λ (c : ConnId). c.0 ≤ most) (map (λ (number : ℕ). conn number) (numbers_from first n))
conns_within most first zero within = All-nil (λ (c : ConnId). c.0 ≤ most)
conns_within most first (suc n) within = grind (arith, conn, conns_within most (first + 1) n (omega arith))

-- ---- the stage

abbrev pub no_form : StrForm
no_form = record {
  name = record { 0 = [] };
  kind = Kind.Lock;
  caps = record { entries = 0; elements = 0 };
  conns = 0;
  vector = 0;
  keep = false;
  prefs = [];
}

abbrev pub form_at : {L : Type 0} → Option (CellShown L) → StrForm
form_at None = no_form
form_at (Some cell) = cell.form

abbrev pub entries_at : Option AnyHistory → AnyHistory
entries_at None = AnyHistory.Lock []
entries_at (Some entries) = entries

abbrev pub stage_of : {L : Type 0} → ℕ → (ℕ → CfId → Telling) → BoardShown L → List AnyHistory → Stage
stage_of limit told board histories = record {
  cells = length board.cells;
  callers = board.callers;
  limit = limit;
  told = told;
  form = λ x. form_at (slice_get board.cells x);
  entries = λ x. entries_at (slice_get histories x);
}

-- no more is said of what callers were shown
goes_silent : (stage : Stage) (state : State) → Goes stage of_all of_none state state (λ run. run)
goes_silent stage state = grind (arith, AgreesAt, of_all)

module _ {L : Type 0} (limit : ℕ) (told : ℕ → CfId → Telling) (script : Script) (board : BoardShown L) (floor : Floor)
    (histories : List AnyHistory) (runnable : IsRunnable script) (of : IsBoardOf limit script board)
    (left : AreClosed board (map (λ worker. worker.desk) floor.workers) histories)
    (as_told : (x : ℕ) (cell : CellShown L) (entries : AnyHistory) → slice_get board.cells x ≡ Some cell
    → slice_get histories x ≡ Some entries → AreAnyAsTold cell.form (told x) entries) where
  abbrev stage : Stage
  stage = stage_of limit told board histories

  -- ---- what is given

  -- a structure's cell and history
  pub record IsPlace (x : ℕ) : Type 0 where
    pub cell : CellShown L
    pub entries : AnyHistory
    pub there : slice_get board.cells x ≡ Some cell
    pub kept : slice_get histories x ≡ Some entries
    pub started : IsStarted (length script.connectors) limit cell
    pub closed : IsClosed cell entries
    pub form_is : stage.form x ≡ cell.form
    pub entries_is : stage.entries x ≡ entries

  pub place_at : (x : ℕ) → x < length board.cells → IsPlace x
  place_at x within =
      let cell = get_within board.cells x within in
      let kept = get_within histories x (omega (arith, left.structures)) in
      record {
        cell = cell.0;
        entries = kept.0;
        there = cell.1;
        kept = kept.1;
        started = all_get (IsStarted (length script.connectors) limit) board.cells x cell.0 of.cells cell.1;
        closed = (left.closed (str x) cell.0 kept.0 cell.1 kept.1).0;
        form_is = ap form_at cell.1;
        entries_is = ap entries_at kept.1;
      }

  pub is_stage : IsStage stage
  is_stage = record {
    legal = λ x within.
        let place : IsPlace x = place_at x within in
        rw (place.form_is, place.entries_is) place.closed.legal;
    as_told = λ x within.
        let place : IsPlace x = place_at x within in
        rw (place.form_is, place.entries_is) (as_told x place.cell place.entries place.there place.kept);
    made = λ x within.
        let place : IsPlace x = place_at x within in
        rw (place.entries_is)
        (subst (λ (n : ℕ). AreMadeBelow n 0 (any_numbers place.entries)) place.started.limit_is place.closed.room);
  }

  pub stage_is : IsStageOf board script stage
  stage_is = record {
    cells = refl;
    forms = of.forms;
    form = λ x cell there. sym (ap form_at there);
    limit = λ x cell there. (all_get (IsStarted (length script.connectors) limit) board.cells x cell of.cells
        there).limit_is;
    policy = grind (arith, slice_get-map);
  }

  structures_are : length script.structures ≡ length board.cells
  structures_are = sym (ap length of.forms) ∙ length-map board.cells (λ cell. cell.form)

  -- ---- nothing done

  abbrev pub new_state : State
  new_state = record {
    spots = λ x. (let spot : Spot = record {
      passes = λ c. pass_at (new_desk board c) (str x);
      note = None;
      last = None;
      events = [];
      front = 0;
    } in spot);
    shown = λ c. no_items;
  }

  new_pass : (x c : ℕ) (place : IsPlace x)
      → pass_at (new_desk board c) (str x) ≡ unused_pass place.cell.str_type place.cell.words c
  new_pass x c place = get_or_from_slice_get (new_desk board c).passes x (unused_pass place.cell.str_type
      place.cell.words c) no_pass (grind (arith, slice_get-map))

  pub known_new : Known stage new_state
  known_new x within =
      let place : IsPlace x = place_at x within in
      record {
        pass = λ c inside. subst (IsKnownPass [] 0 c) (sym (new_pass x c place))
            (record { owner = refl; sure = omega arith; within = omega arith; calls = refl });
        rising = tt;
        below = All-nil (λ (call : AnyCall). call.no ≤ 0);
        by = All-nil (λ (call : AnyCall). call.by.0 ≤ board.callers);
        lasts = (refl, refl);
        noted = tt;
      }

  pub floor_new : IsFloor stage (new_floor board) new_state
  floor_new = grind (arith, new_lists, conn, IsWorker)

  pub agrees_new : Agrees stage of_all new_state (start script)
  agrees_new = record {
    histories = length-map script.structures (λ form. no_calls form.kind) ∙ structures_are;
    transcripts = length-replicate (length script.connectors + 1) no_items ∙ ap (λ n. n + 1) (sym of.callers);
    numbers = length-replicate (length script.structures) 0 ∙ structures_are;
    shown = λ c inside. replicate_at (length script.connectors + 1) c no_items (omega (arith, of.callers));
    at = λ x within.
        let place = place_at x within in
        let kind_of = kind_of_type _ _ (place.closed.history_type ∙ place.started.type_is) in
        record {
          history_is = grind (arith, slice_get-map, take_none);
          front_is = refl;
          seen = λ c inside works.
              let pass = new_pass x c place in
              record {
                complete = ap (λ p. p.sure) pass ∙ sym (ap (λ p. p.known) pass);
                most = omega arith;
                seen = λ said. sym (ap (λ p. p.sure) pass);
              };
          lasts = λ c last. absurd cc;
          number_is = replicate_at (length script.structures) x 0 (omega (arith, structures_are));
          noted = refl;
        };
  }
    where
      replicate_at : {X : Type 0} (n i : ℕ) (x : X) → i < n → slice_get (replicate n x) i ≡ Some x
      replicate_at n i x within = slice_get-get_or (replicate n x) i x (omega (arith, length-replicate n x))
          ∙ ap Some (get_or-replicate n i x x within)

  -- ---- what has been done in the end

  -- what has been done in the whole, and the run that goes with it
  whole : Plays board script.lines (connectors script) floor → TurnGoes stage of_all of_none new_state floor
      (λ run. fold (after_closing limit told script) (fold (after_line limit told script) run script.lines)
      (connectors script))
  whole plays =
      let during = lines_go board script stage is_stage stage_is
      script.lines (grind (arith, All-weaker)) _ plays.between new_state floor_new known_new plays.during in
      let closing = closes_all board script stage is_stage stage_is (connectors script) (conns_within
      board.callers 1 (length script.connectors) (omega (arith, of.callers)))
      plays.between floor during.after during.is_floor (during.goes_on.known known_new) plays.closing in
      let silent : TurnGoes stage _ _ _ _ (λ run. run) =
      record { after = during.after; is_floor = during.is_floor; goes_on = goes_silent _ _ } in
      turn_then during (turn_then silent closing)

  -- ---- the histories fit what has been done in the end

  module _ (state : State) (at : IsFloor stage floor state) (known : Known stage state)
      (memory : All (λ worker. worker.shown.end ≢ AgentEnd.NoMemory want) floor.workers) where
    worker_within : (c : ℕ) → c ≤ board.callers → c < length floor.workers
    worker_within c inside = omega (arith, at.workers)

    account : (x c : ℕ) → x < length board.cells → c ≤ board.callers
        → (place : IsPlace x) → IsAccount place.cell place.entries ((state.spots x).passes c)
    account x c within inside place =
        let desks = map (λ worker. worker.desk) floor.workers in
        let size = length-map floor.workers (λ worker. worker.desk) in
        let desk = (worker_of floor (conn c)).desk in
        let desk_is = get_or-map (λ worker. worker.desk) floor.workers c no_worker desk (worker_within c inside) in
        let all = (left.closed (str x) place.cell place.entries place.there place.kept).1 in
        subst (IsAccount place.cell place.entries) ((at.worker c inside).passes x within)
        (grind (arith, str, worker_within))

    events_are : (x : ℕ) → x < length board.cells → (place : IsPlace x)
        → any_calls place.entries ≡ (state.spots x).events
    events_are x within place =
        let spot = state.spots x in
        same_calls _ _ _ (calls_rise _ _ place.closed.legal)
        (known x within).rising (grind arith) (known x within).by (λ caller inside.
        let pass = (known x within).pass caller.0 inside in
        sym (ap (own_calls (any_calls place.entries)) pass.owner)
        ∙ sym (account x caller.0 within inside place).mine ∙ pass.calls)

    fits_end : Fits stage state
    fits_end = record {
      at = λ x within.
          let place = place_at x within in
          rw (place.form_is, place.entries_is) (record {
            more = [];
            calls = events_are x within place ∙ sym (append-nil (state.spots x).events);
            before = tt;
            tests = λ c inside.
                let is = account x c within inside place in
                subst (λ o. All (IsAnyTold place.cell.form place.entries o) ((state.spots x).passes c).tests)
                ((known x within).pass c inside).owner is.tests;
          });
      memory = grind (arith, worker_within);
      stopped = λ x c within inside stops.
          let place = place_at x within in
          rw (place.entries_is) (account x c within inside place).point;
    }

    -- the run's histories and transcripts are these
    histories_end : (run : Run) → Agrees stage of_none state run → histories ≡ run.histories
    histories_end run agrees = list_same _ _ (left.structures ∙ sym agrees.histories) (λ x inside.
        let within : x < length board.cells = omega (arith, left.structures) in
        let place = place_at x within in
        let ends : any_length place.entries ≡ end_of (state.spots x).events = grind (arith, end_length, events_are) in
        sym (grind (arith, take_all)))

    transcripts_end : (run : Run) → Agrees stage of_none state run
        → map (λ worker. worker.shown) floor.workers ≡ run.transcripts
    transcripts_end run agrees = grind (arith, length-map, list_same, slice_get-map, slice_get-get_or, worker_within)

  -- Where the links answered what they tell, the histories of the closed structures are those of the script's run by
  -- the machine alone, and so is what the callers were shown.
  pub exact : Plays board script.lines (connectors script) floor → All (λ worker. worker.shown.end
      ≢ AgentEnd.NoMemory want) floor.workers → (histories ≡ (serial_run limit told script).histories)
      × (map (λ worker. worker.shown) floor.workers ≡ (serial_run limit told script).transcripts)
  exact plays memory =
      let all = whole plays in
      let known = all.goes_on.known known_new in
      let agrees =
      all.goes_on.agrees known_new (fits_end all.after all.is_floor known memory) (start script) agrees_new in (
        histories_end all.after all.is_floor known memory _ agrees,
        transcripts_end all.after all.is_floor known memory _ agrees,
      )
