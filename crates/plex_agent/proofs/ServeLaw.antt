-- Callers at work at one board, whatever the schedule was: each works at its own desk, and what is known of the
-- others is what the histories say.
use Rattle.plex_agent.proofs.Imports.{◌≡◌, ◌≢◌, ℕ, ◌+◌, ◌≤◌, ◌<◌, inl, inr, List, length, map, Some, None, Option, sym, ap, subst, ◌∙◌, arith, append-nil, slice_get, All, cases_lt, length-map, get_or_past, All-nil, slice_get_within, get_within, StrForm, ConnId, StrNo, AnyHistory, Script, Transcript, AnyCall, any_calls, any_length, own_calls, calls_of, calls_on, length_of, length_on, AgreesWith, numbers_on, TestsTell, EndsRight, IsHistoryOf, ShowsHistories, CellShown, IsAnyTold, Rising, calls_rise, DeskShown, no_pass, pass_at, BoardShown, IsStarted, IsClosed, IsAccount, AreClosed, new_desk, AtWork, no_items, Serves, WorkEnds, ShowsWork, AgentEnd, want}
use Rattle.plex_agent.proofs.Lookups.{get_map, get_mapped, all_get, kind_of_type}
use Rattle.plex_agent.proofs.Work.{caller_of, begins_long, begins_owning, begins_shown, Finished, finishes}
use Rattle.plex_agent.proofs.{Passes.Caller, Passes.IsWithin, Moves.AreWithin, Moves.IsTranscript, Lines.IsSetting}

module _ {L : Type 0} (limit : ℕ) (script : Script) (board : BoardShown L) (histories : List AnyHistory)
    (workers : List AtWork) (forms_are : map (λ cell. cell.form) board.cells ≡ script.structures)
    (started : All (IsStarted (length script.connectors) limit) board.cells)
    (closed : AreClosed board (map (λ worker. worker.desk) workers) histories) where
  abbrev desk_of : AtWork → DeskShown
  desk_of worker = worker.desk

  abbrev shown_of : AtWork → Transcript
  shown_of worker = worker.shown

  as_many : length board.cells ≡ length script.structures
  as_many = sym (length-map board.cells (λ (cell : CellShown L). cell.form)) ∙ ap length forms_are

  starts : (x : ℕ) (cell : CellShown L) → slice_get board.cells x ≡ Some cell
      → IsStarted (length script.connectors) limit cell
  starts x cell there = all_get (IsStarted (length script.connectors) limit) board.cells x cell started there

  form_there : (x : ℕ) (cell : CellShown L) → slice_get board.cells x ≡ Some cell
      → slice_get script.structures x ≡ Some cell.form
  form_there x cell there = grind (arith, get_map)

  -- the cell and the history of a structure
  history_there : (x : ℕ) → x < length board.cells → (entries : AnyHistory) × (slice_get histories x ≡ Some entries)
  history_there x within = get_within histories x (omega (arith, within, closed.structures))

  cell_within : (x : ℕ) (entries : AnyHistory) → slice_get histories x ≡ Some entries → (cell : CellShown L)
      × (slice_get board.cells x ≡ Some cell)
  cell_within x entries there =
      get_within board.cells x (omega (arith, slice_get_within histories x entries there, closed.structures))

  closed_at : (on : StrNo) (cell : CellShown L) (entries : AnyHistory) → slice_get board.cells on.0 ≡ Some cell
      → slice_get histories on.0 ≡ Some entries → IsClosed cell entries
  closed_at on cell entries there kept = (closed.closed on cell entries there kept).0

  setting : IsSetting limit board script.structures histories
  setting = grind (arith, starts, form_there, rise)
    where
      rise : (on : StrNo) (o : Option AnyHistory) → slice_get histories on.0 ≡ o → Rising 0 (calls_on histories on)
      rise on None none = rw none tt
      rise on (Some entries) kept =
          let cell = cell_within on.0 entries kept in
          rw kept (calls_rise cell.0.form entries (closed_at on cell.0 entries cell.1 kept).legal)

  -- ---- one caller

  module _ (conn : ConnId) (worker : AtWork) (there : slice_get workers conn.0 ≡ Some worker)
      (finished : Finished limit board script histories conn setting forms_are worker) where
    abbrev me : Caller
    me = caller_of script histories conn

    account : (on : StrNo) (cell : CellShown L) (entries : AnyHistory) → slice_get board.cells on.0 ≡ Some cell
        → slice_get histories on.0 ≡ Some entries → IsAccount cell entries (pass_at worker.desk on)
    account on cell entries found kept =
        all_get (λ (desk : DeskShown). IsAccount cell entries (pass_at desk on)) (map desk_of workers) conn.0
        worker.desk (closed.closed on cell entries found kept).1 (get_map desk_of workers conn.0 worker there)

    long : length worker.desk.passes ≡ length board.cells
    long = finished.goes.passes ∙ begins_long board conn

    owns : (on : StrNo) → on.0 < length board.cells → (pass_at worker.desk on).owner ≡ conn
    owns on within =
        finished.goes.owners on ∙ begins_owning board conn on (omega (arith, within, begins_long board conn))

    calls_mine : (on : StrNo) (entries : AnyHistory) → on.0 < length board.cells → slice_get
        histories on.0 ≡ Some entries → (pass_at worker.desk on).calls ≡ own_calls (calls_on histories on) conn
    calls_mine on entries within kept =
        let cell = get_within board.cells on.0 within in
        (account on cell.0 entries cell.1 kept).mine ∙ ap (own_calls (any_calls entries)) (owns on within)
        ∙ ap (λ o. own_calls (calls_of o) conn) (sym kept)

    within_board : (on : StrNo) → on.0 < length board.cells → IsWithin me on (pass_at worker.desk on)
    within_board on within =
        let cell = get_within board.cells on.0 within in
        let kept = history_there on.0 within in
        let known : IsAccount cell.0 kept.0 (pass_at worker.desk on) = account on cell.0 kept.0 cell.1 kept.1 in
        let reached : length_on histories on ≡ any_length kept.0 = ap length_of kept.1 in
        record {
          calls = grind (arith, calls_mine, append-nil);
          known = omega (arith, known.known, reached);
          tests = λ form entries found kept'. by_names form
              entries cell.0 kept.0 (sym (form_there on.0 cell.0 cell.1) ∙ found) (sym kept.1 ∙ kept') known.tests;
        }
      where
        by_names : (form : StrForm) (entries : AnyHistory) (cell : CellShown L) (entries' : AnyHistory)
            → Some cell.form ≡ Some form → Some entries' ≡ Some entries
            → All (IsAnyTold cell.form entries' (pass_at worker.desk on).owner) (pass_at worker.desk on).tests
            → All (IsAnyTold form entries conn) (pass_at worker.desk on).tests
        by_names form entries cell entries' found kept tests = grind (arith, owns)

    no_such_pass : (on : StrNo) → length board.cells ≤ on.0 → pass_at worker.desk on ≡ no_pass
    no_such_pass on past = get_or_past worker.desk.passes on.0 no_pass (omega (arith, past, long))

    are_within : AreWithin me worker.desk
    are_within on =
        elim (cases_lt on.0 (length board.cells)) [ inl within ↦ within_board on within | inr past ↦ outside past ]
      where
        outside : length board.cells ≤ on.0 → IsWithin me on (pass_at worker.desk on)
        outside past = subst (IsWithin me on) (sym (no_such_pass on past)) (grind (arith, All-nil))

    goes_with : IsTranscript me worker
    goes_with = finished.goes.forth are_within (begins_shown board me)

    agrees : AgreesWith histories conn worker.shown.items
    agrees = record {
      numbers = λ on small. numbers on small;
      notes = λ k item found. (goes_with.each k item found).0;
    }
      where
        numbers : (on : StrNo) → on.0 < length histories → numbers_on
            on worker.shown.items ≡ map (λ (call : AnyCall). call.no) (own_calls (calls_on histories on) conn)
        numbers on small =
            let within : on.0 < length board.cells = omega (arith, small, closed.structures) in
            let kept = history_there on.0 within in
            (goes_with.shows on).numbers ∙ ap (map (λ (call : AnyCall). call.no)) (calls_mine on kept.0 within kept.1)

    tests : TestsTell script.structures histories conn worker.shown.items
    tests k item form entries found known kept = (goes_with.each k item found).1 form entries known kept

    work : ShowsWork limit script histories conn worker.shown
    work = record {
      ends = subst (λ items. WorkEnds limit script histories conn items worker.shown.end) (sym finished.goes.items)
          (finished.shows tt are_within (subst (AgreesWith histories conn) finished.goes.items agrees));
      tests = tests;
    }

  -- where memory was found, the items follow the script, or stop at a full journal
  ends_right : (conn : ConnId) (shown : Transcript) → shown.end ≢ AgentEnd.NoMemory want
      → ShowsWork limit script histories conn shown → EndsRight limit script histories conn shown.items shown.end
  ends_right conn shown found work = grind arith

  -- ---- all callers

  history_of : (x : ℕ) (form : StrForm) (entries : AnyHistory) → slice_get script.structures x ≡ Some form
      → slice_get histories x ≡ Some entries → IsHistoryOf script form entries
  history_of x form entries known kept =
      let cell = cell_within x entries kept in
      let is : IsClosed cell.0 entries = closed_at (record { 0 = x }) cell.0 entries cell.1 kept in
      let start : IsStarted (length script.connectors) limit cell.0 = starts x cell.0 cell.1 in
      let both : Some cell.0.form ≡ Some form = sym (form_there x cell.0 cell.1) ∙ known in
      let same : cell.0.form ≡ form = cc in
      subst (λ f. IsHistoryOf script f entries) same (grind (arith, kind_of_type))

  -- However a caller's work ended, and whatever the others did: what it was shown are the caller's calls, each once and
  -- in their order, as far as its work came, and tests that tell what stood.
  pub serve_right : (c : ℕ) (worker : AtWork) → slice_get workers c ≡ Some worker
      → Serves board script.lines (record { desk = new_desk board c; shown = no_items }) worker
      → ShowsWork limit script histories (record { 0 = c }) worker.shown
  serve_right c worker there serves = work (record { 0 = c })
      worker there (finishes limit board script histories (record { 0 = c }) setting forms_are worker serves)

  -- Whatever the schedule was, what the callers were shown goes with the histories: these are legal, and hold each
  -- caller's calls once and in its order; each transcript follows the script, or stops at a full journal; and each test
  -- tells what stood.
  pub serves_right : length workers ≡ length script.connectors + 1 → ((c : ℕ) (worker : AtWork) → slice_get workers
      c ≡ Some worker → Serves board script.lines (record { desk = new_desk board c; shown = no_items }) worker)
      → All (λ worker. worker.shown.end ≢ AgentEnd.NoMemory want) workers
      → ShowsHistories limit script histories (map (λ worker. worker.shown) workers)
  serves_right as_workers serve found = record {
    structures = closed.structures ∙ as_many;
    histories_right = history_of;
    callers = length-map workers shown_of ∙ as_workers;
    ends = λ c transcript shown'. (let it = get_mapped shown_of workers c transcript shown' in
        subst (λ t. EndsRight limit script histories (record { 0 = c }) t.items t.end)
        it.2 (ends_right (record { 0 = c }) it.0.shown (all_get (λ (worker : AtWork). worker.shown.end ≢
        AgentEnd.NoMemory want) workers c it.0 found it.1) (serve_right c it.0 it.1 (serve c it.0 it.1))));
    tests = λ c transcript shown'. (let it = get_mapped shown_of workers c transcript shown' in
        subst (λ t. TestsTell script.structures histories (record { 0 = c }) t.items) it.2
        (serve_right c it.0 it.1 (serve c it.0 it.1)).tests);
  }
