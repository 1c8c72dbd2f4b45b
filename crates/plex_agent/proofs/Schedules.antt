-- A script's work on one thread is one schedule: each caller's lines and departures are a chain of turns, before each of
-- which it hears of others.
use Rattle.plex_agent.proofs.Imports.{◌≡◌, ◌≢◌, ℕ, zero, suc, ◌+◌, ◌≤◌, ◌<◌, ◌==◌, inl, Bool, true, false, MatchBool, List, [], ◌∷◌, length, map, fold, replicate, Option, None, Some, get_or, set, refl, sym, ap, subst, ◌∙◌, arith, All, range_with_len, nat_tests, length-map, get_or-set_same, get_or-set_other, All-head, All-tail, length-map-range_with_len, get_or-map-range_with_len, slice_get_within, get_or_from_slice_get, StrForm, ConnId, StrNo, Act, Line, Script, AnyHistory, numbers_from, connectors, ShowsHistories, PassShown, NoteShown, IsLater, note_of, unused_pass, CellShown, with_note, with_any_note, no_pass, pass_at, BoardShown, IsStarted, AreClosed, new_desk, note_in, AtWork, Takes, Acts, Turns, is_done_as, lines_by, no_items, Floor, Plays, PlaysLines, PlaysAct, ClosesOne, ClosesAll, new_floor, no_worker, worker_of, told_by, heard_from, heard_from_last, heard_all, is_working, with_worker, last_after, worker_ready, worker_after_take, Hears, HearsThen, DoesLines, DepartsEach, Serves, cases_lt, AgentEnd, want}
use Rattle.std.proofs.lemmas.List.{length-set}
use Rattle.plex_board.specs.Callers as alone
use Rattle.plex_agent.proofs.Keeping.{IsInOrder, IsOrdered, IsNoteOrdered, Keeps, turns_keep, departs_each_keep}
use Rattle.plex_agent.proofs.{Alone.departs_heard, Lookups.any_set, Lookups.any_map, ServeLaw.serves_right}
use Rattle.plex_agent.proofs.{Spots.same_number, Spots.conn, Spots.str}
use Rattle.plex_agent.proofs.{Hearings.hears_none, Hearings.hears_then, Hearings.later_same, Moves.other_number}

later_set : (xs : List PassShown) (i : ℕ) (pass : PassShown) → IsLater (get_or xs i no_pass) pass → (j : ℕ)
    → IsLater (get_or xs j no_pass) (get_or (set xs i pass) j no_pass)
later_set [] i pass later j = later_same (get_or [] j no_pass)
later_set (x ∷ xs) zero pass later zero = later
later_set (x ∷ xs) zero pass later (suc j) = later_same (get_or xs j no_pass)
later_set (x ∷ xs) (suc i) pass later zero = later_same x
later_set (x ∷ xs) (suc i) pass later (suc j) = later_set xs i pass later j

-- ---- the floor

-- as many callers as the board has, with a pass to each structure; nothing in order is put out of it
pub record IsOrderly {L : Type 0} (board : BoardShown L) (floor : Floor) : Type 0 where
  pub workers : length floor.workers ≡ board.callers + 1
  pub sizes : (c : ℕ) → c ≤ board.callers → length (worker_of floor (conn c)).desk.passes ≡ length board.cells
  pub ordered : (c : ℕ) → IsOrdered (worker_of floor (conn c)).desk
  pub notes : (x : ℕ) → IsNoteOrdered (note_in floor.tray (str x))

-- ---- hearings

note_later : (note : NoteShown) (pass : PassShown) → IsLater pass (with_note note pass)
note_later note pass = record { known = omega arith; sure = omega arith; same = refl }

-- a caller hears, and what it knows stays in order
abbrev HearsWell : AtWork → AtWork → Type 0
HearsWell before after = Hears before after × (IsOrdered before.desk → IsOrdered after.desk)

well_none : (worker : AtWork) → HearsWell worker worker
well_none worker = (hears_none worker, λ ordered. ordered)

module _ (floor : Floor) (ordered : (c : ℕ) → IsOrdered (worker_of floor (conn c)).desk) where
  hears_told : (on : StrNo) (other : ConnId) (worker : AtWork) → HearsWell worker (told_by floor on other worker)
  hears_told on other worker =
      let note : NoteShown = note_of (pass_at (worker_of floor other).desk on) in
      let pass : PassShown = with_note note (pass_at worker.desk on) in (
        record {
          owner = refl;
          passes = length-set worker.desk.passes on.0 pass;
          later = λ place. later_set worker.desk.passes on.0 pass (note_later note (pass_at worker.desk on)) place.0;
          shown = refl;
        },
        λ mine. any_set IsInOrder no_pass worker.desk.passes
            on.0 pass (let here = mine on.0 in let there = ordered other.0 on.0 in omega (arith, here, there)) mine,
      )

  hears_from : (by : ConnId) (on : StrNo) (last : Option ConnId) (worker : AtWork)
      → HearsWell worker (heard_from floor by on last worker)
  hears_from by on None worker = well_none worker
  hears_from by on (Some other) worker = by_test (other.0 == by.0) refl
    where
      by_test : (b : Bool) → other.0 == by.0 ≡ b → HearsWell worker (heard_from floor by on (Some other) worker)
      by_test true same = rw same (well_none worker)
      by_test false apart = rw apart (hears_told on other worker)

  hears_last : (by : ConnId) (on : StrNo) (worker : AtWork) → HearsWell worker (heard_from_last floor by worker on)
  hears_last by on worker = hears_from by on (get_or floor.last on.0 None) worker

  hears_each : (by : ConnId) (places : List ℕ) (worker : AtWork)
      → HearsWell worker (fold (λ worker place. heard_from_last floor by worker (record { 0 = place })) worker places)
  hears_each by [] worker = well_none worker
  hears_each by (place ∷ places) worker =
      let next : AtWork = heard_from_last floor by worker (str place) in
      let first : HearsWell worker next = hears_last by (str place) worker in
      let others = hears_each by places next in
      (hears_then worker next _ first.0 others.0, λ mine. others.1 (first.1 mine))

  hears_all : {L : Type 0} (board : BoardShown L) (by : ConnId)
      → HearsWell (worker_of floor by) (heard_all board floor by)
  hears_all board by = hears_each by (range_with_len 0 (length board.cells)) (worker_of floor by)

  hears_ready : (form : StrForm) (line : Line) → HearsWell (worker_of floor line.by) (worker_ready form line floor)
  hears_ready form line = grind (arith, hears_last, well_none)

-- ---- one caller at work

-- a caller of the floor heard, and did this; the others did nothing
pub record Worked (by : ConnId) (act : AtWork → AtWork → Type 0) (before after : Floor) : Type 0 where
  pub ready : AtWork
  pub worker : AtWork
  pub hears : HearsWell (worker_of before by) ready
  pub acted : act ready worker
  pub keeps : Keeps ready.desk worker.desk
  pub workers : after.workers ≡ set before.workers by.0 worker
  pub notes : (x : ℕ) → IsNoteOrdered (note_in after.tray (str x))

module _ (by : ConnId) (act : AtWork → AtWork → Type 0) (before after : Floor) (worked : Worked by act before after)
  where
    worker_here : by.0 < length before.workers → worker_of after by ≡ worked.worker
    worker_here within = ap (λ t. get_or t by.0 no_worker) worked.workers
        ∙ get_or-set_same before.workers by.0 worked.worker no_worker within

    worker_there : (c : ℕ) → by.0 == c ≡ false → worker_of after (conn c) ≡ worker_of before (conn c)
    worker_there c apart = ap (λ t. get_or t c no_worker) worked.workers
        ∙ get_or-set_other before.workers by.0 c worked.worker no_worker (other_number by.0 c apart)

    worked_mine : by.0 < length before.workers → HearsThen act (worker_of before by) (worker_of after by)
    worked_mine within =
        (worked.ready, worked.hears.0, subst (act worked.ready) (sym (worker_here within)) worked.acted)

    module _ {L : Type 0} (board : BoardShown L) (orderly : IsOrderly board before) where
      worked_size : (c : ℕ) → c ≤ board.callers → (b : Bool) → by.0 == c ≡ b
          → length (worker_of after (conn c)).desk.passes ≡ length board.cells
      worked_size c inside true same =
          let here : by.0 ≡ c = same_number by.0 c same in
          let within : by.0 < length before.workers = omega (arith, here, inside, orderly.workers) in
          ap (λ n. length (worker_of after (conn n)).desk.passes) (sym here)
          ∙ ap (λ w. length w.desk.passes) (worker_here within) ∙ worked.keeps.size ∙ worked.hears.0.passes
          ∙ orderly.sizes by.0 (omega (arith, here, inside))
      worked_size c inside false apart =
          ap (λ w. length w.desk.passes) (worker_there c apart) ∙ orderly.sizes c inside

      worked_orderly : IsOrderly board after
      worked_orderly = record {
        workers = ap length worked.workers ∙ length-set before.workers by.0 worked.worker ∙ orderly.workers;
        sizes = λ c inside. worked_size c inside (by.0 == c) refl;
        ordered = λ c. subst (λ t. IsOrdered (get_or t c no_worker).desk) (sym worked.workers)
            (any_set (λ (w : AtWork). IsOrdered w.desk) no_worker before.workers by.0 worked.worker
            (worked.keeps.ordered (worked.hears.1 (orderly.ordered by.0))) orderly.ordered c);
        notes = worked.notes;
      }

-- ---- lines

module _ {L : Type 0} (board : BoardShown L) where
  turn_worked : (cell : CellShown L) (line : Line) (before after : Floor) → IsOrderly board before → (worker : AtWork)
      → Turns cell.limit cell.form line (worker_ready cell.form line before) worker
      → after ≡ record (with_worker line.by worker before) { last = last_after cell.form line before }
      → Worked line.by (Turns cell.limit cell.form line) before after
  turn_worked cell line before after orderly worker turns same = grind (arith, hears_ready, turns_keep, IsNoteOrdered)

  -- a note that is posted or taken, before which nothing is heard
  note_worked : (cell : CellShown L) (line : Line) (done : Act) (before after : Floor) (worker : AtWork)
      (tray : List (Option NoteShown)) → line.act ≡ done → is_working before line.by ≡ true → Acts cell.limit cell.form
      line.on line.retry done (worker_of before line.by) worker → ((x : ℕ) → IsNoteOrdered (note_in tray (str x)))
      → after ≡ record (with_worker line.by worker before) { tray = tray }
      → Worked line.by (Turns cell.limit cell.form line) before after
  note_worked cell line done before after worker tray is working acts notes same =
      let was : AtWork = worker_of before line.by in
      let here : Acts cell.limit cell.form line.on line.retry line.act was worker =
      subst (λ (a : Act). Acts cell.limit cell.form line.on line.retry a was worker) (sym is) acts in
      let turns : Turns cell.limit cell.form line was worker = rw working here in
      grind (arith, well_none, turns_keep)

  -- what a line's caller does, where its work goes on
  act_worked : (cell : CellShown L) (line : Line) (done : Act) (before after : Floor) → line.act ≡ done
      → is_working before line.by ≡ true → length (worker_of before line.by).desk.passes ≡ length board.cells
      → line.on.0 < length board.cells → IsOrderly board before
      → PlaysAct cell line done before after → Worked line.by (Turns cell.limit cell.form line) before after
  act_worked cell line Act.Post before after is working size within orderly (worker, posts, same) = note_worked
      cell line Act.Post before after worker _ is working (inl posts) (any_set IsNoteOrdered None before.tray line.on.0
      (Some (note_of (pass_at (worker_of before line.by).desk line.on))) (orderly.ordered line.by.0 line.on.0)
      orderly.notes) same
  act_worked cell line Act.Take before after is working size within orderly same =
      let was : AtWork = worker_of before line.by in
      let note : Option NoteShown = note_in before.tray line.on in
      let pass : PassShown = with_any_note note (pass_at was.desk line.on) in
      let worker : AtWork = worker_after_take line.on note was in
      let here : pass_at worker.desk line.on ≡ pass =
      get_or-set_same was.desk.passes line.on.0 pass no_pass (omega (arith, within, size)) in
      let takes : Takes line.on was worker = grind (arith, any_note_later, IsInOrder, any_note_order) in
      note_worked cell line Act.Take before after worker before.tray is working (inl takes) orderly.notes same
    where
      any_note_later : (note : Option NoteShown) (pass : PassShown) → IsLater pass (with_any_note note pass)
      any_note_later None pass = later_same pass
      any_note_later (Some note) pass = note_later note pass

      any_note_order : (note : Option NoteShown) (pass : PassShown) → IsNoteOrdered note → IsInOrder pass
          → IsInOrder (with_any_note note pass)
      any_note_order None pass noted order = order
      any_note_order (Some note) pass noted order = omega (arith, noted, order)
  act_worked cell line done before after is working size within orderly (worker, turns, same) =
      turn_worked cell line before after orderly worker turns same

  -- ---- one caller at work, where its work goes on

  -- one caller did this; the others did nothing
  pub record Did (Does : AtWork → AtWork → Type 0) (by : ConnId) (c : ℕ) (before after : Floor) : Type 0 where
    pub orderly : IsOrderly board after
    pub mine : by.0 == c ≡ true → Does (worker_of before (conn c)) (worker_of after (conn c))
    pub other : by.0 == c ≡ false → worker_of after (conn c) ≡ worker_of before (conn c)

  module _ (Made Does : AtWork → AtWork → Type 0)
      (rests : (worker : AtWork) → is_done_as worker.shown.end ≡ false → Does worker worker)
      (heard : (before after : AtWork) → HearsThen Made before after → Does before after) (by : ConnId) (c : ℕ)
      (before after : Floor) (caller : by.0 ≤ board.callers) (orderly : IsOrderly board before) where
    nothing_done : is_working before by ≡ false → after ≡ before → Did Does by c before after
    nothing_done ended same = grind (arith, conn, rests, same_number)

    something_done : Worked by Made before after → Did Does by c before after
    something_done worked =
        let within : by.0 < length before.workers = omega (arith, caller, orderly.workers) in
        record {
          orderly = worked_orderly by Made before after worked board orderly;
          mine = λ is. subst (λ n. Does (worker_of before (conn n)) (worker_of after (conn n)))
              (same_number by.0 c is) (heard _ _ (worked_mine by Made before after worked within));
          other = worker_there by Made before after worked c;
        }

    work_done : (Acts : Type 0) → (is_working before by ≡ true → Acts → Worked by Made before after) → (b : Bool)
        → is_working before by ≡ b → MatchBool b Acts (after ≡ before) → Did Does by c before after
    work_done Acts works true working acts = something_done (works working acts)
    work_done Acts works false ended same = nothing_done ended same

  -- ---- lines

  abbrev AreCallers : List Line → Type 0
  AreCallers lines = All (λ line. line.by.0 ≤ board.callers) lines

  lines_serve : (lines : List Line) (c : ℕ) (before after : Floor)
      → AreCallers lines → IsOrderly board before → PlaysLines board lines before after → IsOrderly board after
      × DoesLines board (lines_by (conn c) lines) (worker_of before (conn c)) (worker_of after (conn c))
  lines_serve [] c before after callers orderly same = grind (arith, conn, hears_none)
  lines_serve (line ∷ lines) c before after callers orderly (between, (cell, there, plays), rest) =
      by_test (line.by.0 == c) refl (lines_serve lines c between
      after (All-tail (λ (l : Line). l.by.0 ≤ board.callers) line lines callers) did.orderly rest)
    where
      caller : line.by.0 ≤ board.callers
      caller = All-head (λ (l : Line). l.by.0 ≤ board.callers) line lines callers

      did : Did (HearsThen (Turns cell.limit cell.form line)) line.by c before between
      did = work_done (Turns cell.limit cell.form line) (HearsThen (Turns cell.limit cell.form line))
          (λ worker ended. (worker, hears_none worker, rw ended refl)) (λ worker after acted. acted)
          line.by c before between caller orderly (PlaysAct cell line line.act before between)
          (λ working. act_worked cell line line.act before between refl working (orderly.sizes line.by.0 caller)
          (slice_get_within board.cells line.on.0 cell there) orderly) (is_working before line.by) refl plays

      by_test : (b : Bool) → line.by.0 == c ≡ b → IsOrderly board after × DoesLines board
          (lines_by (conn c) lines) (worker_of between (conn c)) (worker_of after (conn c)) → IsOrderly board after
          × DoesLines board (lines_by (conn c) (line ∷ lines)) (worker_of before (conn c)) (worker_of after (conn c))
      by_test true is (right, others) =
          (right, rw is (cell, there, (worker_of between (conn c), did.mine is, others)))
      by_test false apart (right, others) = (
        right,
        rw apart (subst (λ w. DoesLines board (lines_by (conn c) lines) w (worker_of after (conn c)))
            (did.other apart) others),
      )

  -- ---- closings

  -- a caller whose work has ended departs from nowhere
  departs_not : (k : ℕ) (cells : List (CellShown L)) (worker : AtWork) → is_done_as worker.shown.end ≡ false
      → DepartsEach k cells worker worker
  departs_not k [] worker ended = hears_none worker
  departs_not k (cell ∷ cells) worker ended =
      (worker, (worker, hears_none worker, rw ended refl), departs_not (k + 1) cells worker ended)

  abbrev Departures : AtWork → AtWork → Type 0
  Departures = alone.DepartsEach 0 board.cells

  close_worked : (by : ConnId) (before after : Floor) → IsOrderly board before → (worker : AtWork) × Departures
      (heard_all board before by) worker × (after ≡ record (with_worker by worker before) {
        last = replicate (length board.cells) (Some by);
      }) → Worked by Departures before after
  close_worked by before after orderly closes = grind (arith, hears_all, departs_each_keep, IsNoteOrdered)

  closing_done : (by : ConnId) (c : ℕ) (before after : Floor) → by.0 ≤ board.callers → IsOrderly board before
      → ClosesOne board by before after → Did (DepartsEach 0 board.cells) by c before after
  closing_done by c before after caller orderly closes =
      work_done Departures (DepartsEach 0 board.cells) (departs_not 0 board.cells)
      (λ worker after acted. departs_heard 0 board.cells worker acted.0 after acted.1 acted.2) by c before
      after caller orderly _ (λ working. close_worked by before after orderly) (is_working before by) refl closes

  abbrev conns : ℕ → ℕ → List ConnId
  conns first n = map conn (numbers_from first n)

  -- before its own closing and behind it a caller does nothing
  closes_run : (first n c : ℕ) (before after : Floor) → first + n ≤ board.callers + 1 → IsOrderly board before
      → ClosesAll board (conns first n) before after
      → IsOrderly board after × (c < first → worker_of after (conn c) ≡ worker_of before (conn c))
      × (first ≤ c → c < first + n → DepartsEach 0 board.cells (worker_of before (conn c)) (worker_of after (conn c)))
  closes_run first zero c before after most orderly same = grind (arith, conn)
  closes_run first (suc n) c before after most orderly (between, one, rest) =
      let goes : Did (DepartsEach 0 board.cells) (conn first) c before between =
      closing_done (conn first) c before between (omega (arith, most)) orderly one in
      let behind = closes_run (first + 1) n c between after (omega (arith, most)) goes.orderly rest in (
      grind (arith, nat_tests, cases_lt, conn))

  -- ---- as the floor begins

  abbrev idle : ℕ → AtWork
  idle owner = record { desk = new_desk board owner; shown = no_items }

  new_ordered : (owner : ℕ) → IsOrdered (new_desk board owner)
  new_ordered owner = any_map IsInOrder no_pass (λ cell. unused_pass cell.str_type cell.words owner) board.cells
      (omega arith) (λ cell. omega arith)

  idle_ordered : (c : ℕ) → IsOrdered (worker_of (new_floor board) (conn c)).desk
  idle_ordered = any_map (λ (w : AtWork). IsOrdered w.desk) no_worker idle (range_with_len 0 (board.callers + 1))
      (λ x. omega arith) new_ordered

  no_notes_ordered : (n x : ℕ) → IsNoteOrdered (get_or (replicate n None) x None)
  no_notes_ordered zero x = tt
  no_notes_ordered (suc n) zero = tt
  no_notes_ordered (suc n) (suc x) = no_notes_ordered n x

  begins_as : (c : ℕ) → c ≤ board.callers → worker_of (new_floor board) (conn c) ≡ idle c
  begins_as c inside =
      get_or-map-range_with_len idle 0 (board.callers + 1) c c no_worker (omega (arith, inside)) (omega arith)

  begins_orderly : IsOrderly board (new_floor board)
  begins_orderly = grind (arith, length-map-range_with_len, begins_as, length-map, idle_ordered, no_notes_ordered)

  plays_orderly : (script : Script) (floor : Floor) → board.callers ≡ length script.connectors
      → AreCallers script.lines → Plays board script.lines (connectors script) floor → IsOrderly board floor
  plays_orderly script floor callers lines plays = (closes_run
      1 _ 0 _ _ (omega (arith, callers)) (lines_serve _ 0 _ _ lines begins_orderly plays.during).0 plays.closing).0

  -- a caller's part of a script's work on one thread is that caller's whole work
  pub plays_serve : (script : Script) (floor : Floor) (c : ℕ) → board.callers ≡ length script.connectors
      → AreCallers script.lines → Plays board script.lines (connectors script) floor → c ≤ board.callers
      → Serves board script.lines (idle c) (worker_of floor (conn c))
  plays_serve script floor c callers lines plays inside = grind (arith, conn, during, begins_as, by_owner)
    where
      during : IsOrderly board plays.between × DoesLines board
          (lines_by (conn c) script.lines) (worker_of (new_floor board) (conn c)) (worker_of plays.between (conn c))
      during = lines_serve script.lines c (new_floor board) plays.between lines begins_orderly plays.during

      closing : IsOrderly board floor × (c < 1 → worker_of floor (conn c) ≡ worker_of plays.between (conn c))
          × (1 ≤ c → c < 1 + length script.connectors
          → DepartsEach 0 board.cells (worker_of plays.between (conn c)) (worker_of floor (conn c)))
      closing = closes_run 1 (length script.connectors) c plays.between floor (omega (arith, callers)) during.0
          plays.closing

      by_owner : (b : Bool) → c == 0 ≡ b → MatchBool b (Hears (worker_of plays.between (conn c)) (worker_of
          floor (conn c))) (DepartsEach 0 board.cells (worker_of plays.between (conn c)) (worker_of floor (conn c)))
      by_owner true is =
          let none : c ≡ 0 = same_number c 0 is in
          subst (Hears (worker_of plays.between (conn c))) (sym (closing.1 (omega (arith, none))))
          (hears_none (worker_of plays.between (conn c)))
      by_owner false apart =
          let some : 1 ≤ c = grind (arith, nat_tests) in closing.2 some (omega (arith, inside, callers))

-- What a script's work on one thread shows, by the law of callers at work whatever the schedule was.
pub serial_shows : {L : Type 0} (limit : ℕ) (script : Script) (board : BoardShown L) (floor : Floor)
    (histories : List AnyHistory) → map (λ cell. cell.form) board.cells ≡ script.structures
    → All (IsStarted (length script.connectors) limit) board.cells → board.callers ≡ length script.connectors
    → All (λ line. line.by.0 ≤ board.callers) script.lines → Plays board script.lines (connectors script) floor
    → All (λ worker. worker.shown.end ≢ AgentEnd.NoMemory want) floor.workers
    → AreClosed board (map (λ worker. worker.desk) floor.workers) histories
    → ShowsHistories limit script histories (map (λ worker. worker.shown) floor.workers)
serial_shows limit script board floor histories forms started callers lines plays memory closed =
    let right : IsOrderly board floor = ends_orderly in
    serves_right limit script
    board histories floor.workers forms started closed (right.workers ∙ ap (λ n. n + 1) callers) (
    grind (arith, slice_get_within, get_or_from_slice_get, plays_serve)) memory
  where
    ends_orderly : IsOrderly board floor
    ends_orderly = plays_orderly board script floor callers lines plays
