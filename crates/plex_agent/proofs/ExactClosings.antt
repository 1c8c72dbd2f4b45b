-- The closings of a script at a board, against the run by the machine alone.
use Rattle.plex_agent.proofs.Imports.{set, set-set, ◌≡◌, ℕ, zero, suc, ◌+◌, ◌≤◌, ◌<◌, Bool, true, false, List, [], ◌∷◌, length, map, fold, slice_get, replicate, None, Some, MatchBool, refl, sym, ap, ◌∙◌, arith, length-set, All, range_with_len, enumerate_from, get_or-replicate, length-replicate, All-head, All-tail, StrForm, ConnId, Script, AgentEnd, shell_ask, any_calls, own_calls, is_linked, cases_eq, any_take, end_of, IsFrontOf, Run, is_done, after_departure, after_closing, CellShown, pass_at, BoardShown, AtWork, Asks, Departs, is_done_as, Floor, worker_of, with_worker, heard_from_last, heard_all, ClosesAll, slice_get_within, ShellCmd, Step}
use Rattle.plex_board.specs.Serial as serial
use Rattle.plex_board.specs.Callers.{DepartsEach}
use Rattle.plex_agent.proofs.Closings.{AreFrom, from_here, from_next}
use Rattle.plex_agent.proofs.Fits.{put_back, FitsAt, events_front, fits_put, heard_pass, IsHeardPass, heard_is, heard_complete}
use Rattle.plex_agent.proofs.LineTurns.{if_done, of_none, TurnGoes, turn_then, worker_turn, heard_desk, IsStageOf}
use Rattle.plex_agent.proofs.Spots.{conn, str, put, put_all, put_same, put_other, Spot, moved, known_moved}
use Rattle.plex_agent.proofs.Stages.{Stage, IsStage, State, Known, Fits, Agrees, Goes, goes_then, goes_not, goes_where}
use Rattle.plex_agent.proofs.Workers.{by_place, pass_same, pass_other, IsWorker, others_then, WorkerGoes, asks_go, IsFloor, floor_after}
use Rattle.plex_agent.proofs.Agreements.{AgreesAt, agrees_put, last_is}
use Rattle.plex_agent.proofs.ExactMoves.{transcript_is, says_same}

-- ---- hearings at all structures

abbrev pub heard_state_all : ℕ → State → State
heard_state_all by state = record {
  spots = λ x. moved by (heard_pass by (state.spots x)) (state.spots x);
  shown = put by (state.shown by) state.shown;
}

ruleset hearing_steps = (heard_pass, heard_is, heard_complete, known_moved, fits_put, agrees_put, last_is)

ruleset tables = (put, put_all, put_back, put_same, put_other)

pub goes_heard_all : (stage : Stage) (by : ℕ) (state : State) → by ≤ stage.callers
    → (state.shown by).end ≡ AgentEnd.Done → Goes stage of_none of_none state (heard_state_all by state) (λ run. run)
goes_heard_all stage by state caller works =
    grind (arith, hearing_steps, tables, IsHeardPass, AgreesAt, of_none, Spot, conn, cases_eq)

-- a worker that has heard of the first structures, so many
record IsHearing (cells by n : ℕ) (worker : AtWork) (state : State) : Type 0 where
  size : length worker.desk.passes ≡ cells
  before : (x : ℕ) → x < n → x < cells → pass_at worker.desk (str x) ≡ heard_pass by (state.spots x)
  behind : (x : ℕ) → n ≤ x → x < cells → pass_at worker.desk (str x) ≡ (state.spots x).passes by
  shown : worker.shown ≡ state.shown by

hearing_next : (stage : Stage) (by n : ℕ) (worker : AtWork) (floor : Floor) (state : State) → n < stage.cells
    → IsFloor stage floor state → Known stage state → IsHearing stage.cells by n worker state
    → IsHearing stage.cells by (n + 1) (heard_from_last floor (conn by) worker (str n)) state
hearing_next stage by n worker floor state within is known hearing =
    grind (arith, heard_pass, heard_is, conn, str, heard_desk, length-set, by_place, pass_same, pass_other)

hearing_all : (stage : Stage) (by n left : ℕ) (worker : AtWork) (floor : Floor) (state : State)
    → n + left ≡ stage.cells → IsFloor stage floor state
    → Known stage state → IsHearing stage.cells by n worker state → IsHearing stage.cells by stage.cells
    (fold (λ worker place. heard_from_last floor (conn by) worker (str place)) worker (range_with_len n left)) state
hearing_all stage by n zero worker floor state all is known hearing = grind arith
hearing_all stage by n (suc left) worker floor state all is known hearing =
    hearing_all stage by (n + 1) left (heard_from_last floor (conn by) worker (str n)) floor
    state (omega arith) is known (hearing_next stage by n worker floor state (omega arith) is known hearing)

pub heard_all_worker : {L : Type 0} (board : BoardShown L) (stage : Stage) (by : ℕ) (floor : Floor) (state : State)
    → length board.cells ≡ stage.cells → by ≤ stage.callers → IsFloor stage floor state → Known stage state
    → IsWorker stage.cells by (heard_all board floor (conn by)) (heard_state_all by state)
heard_all_worker board stage by floor state cells caller is known =
    let at : IsWorker stage.cells by (worker_of floor (conn by)) state = is.worker by caller in
    let all : IsHearing stage.cells by stage.cells (heard_all board floor (conn by)) state = hearing_all
    stage by 0 (length board.cells) (worker_of floor (conn by)) floor state (omega (arith, cells)) is known (
    grind arith) in
    record {
      size = all.size;
      passes = grind (arith, put_same, heard_pass);
      shown = all.shown ∙ sym (put_same by (state.shown by) state.shown);
    }

-- ---- departures

-- where departures lead
abbrev pub DepartsGo : Stage → ℕ → AtWork → State → (Run → Run) → Type 1
DepartsGo stage by worker before goes = WorkerGoes stage of_none of_none by worker before goes

worker_where : {stage : Stage} {by : ℕ} {worker : AtWork} {before : State} {goes goes' : Run → Run}
    → (Known stage before → Fits stage before → (run : Run) → Agrees stage of_none before run → goes' run ≡ goes run)
    → DepartsGo stage by worker before goes → DepartsGo stage by worker before goes'
worker_where same go = grind (arith, goes_where)

departs_not : (stage : Stage) (by : ℕ) (worker worker' : AtWork) (before : State) (goes : Run → Run)
    → IsWorker stage.cells by worker before → worker' ≡ worker → (Known stage before → Fits stage before
    → (run : Run) → Agrees stage of_none before run → goes run ≡ run) → DepartsGo stage by worker' before goes
departs_not stage by worker worker' before goes at same still = grind (arith, IsWorker, goes_where, of_none, goes_not)

-- a connector is active by its own calls, as the run has it
linked_is : (stage : Stage) (is : IsStage stage) (on by : ℕ) (worker : AtWork) (before : State) → on < stage.cells
    → by ≤ stage.callers → IsWorker stage.cells by worker before → Known stage before → Fits stage before
    → is_linked (own_calls (any_calls (any_take (end_of (before.spots on).events) (stage.entries on)))
    (conn by)) ≡ is_linked (pass_at worker.desk (str on)).calls
linked_is stage is on by worker before within caller at known fits =
    grind (arith, Spot, FitsAt, IsFrontOf, events_front, conn)

module _ (stage : Stage) (is : IsStage stage) (on by : ℕ) (worker worker' : AtWork) (before : State)
    (within : on < stage.cells) (caller : by ≤ stage.callers) (at : IsWorker stage.cells by worker before) where
  done_run : (end : AgentEnd) → (before.shown by).end ≡ end → (run : Run) → Agrees stage of_none before run
      → is_done run (conn by) ≡ serial.is_done_as end
  done_run end ends run agrees = grind (arith, transcript_is, of_none)

  departs_case : (b : Bool) → is_linked (pass_at worker.desk (str on)).calls ≡ b → (before.shown by).end ≡ AgentEnd.Done
      → (before.spots on).last ≡ Some (conn by) → MatchBool b (Asks stage.limit (stage.form on).kind (Some (shell_ask
      (stage.form on).kind ShellCmd.Disconnect)) (str on) (Step.Call 0) worker worker') (worker' ≡ worker) → DepartsGo
      stage by worker' before (λ run. after_departure stage.limit stage.told (conn by) run (on, stage.form on))
  departs_case true linked works last asks =
      let line = Some (shell_ask (stage.form on).kind ShellCmd.Disconnect) in
      worker_where (grind (arith, done_run, linked_is)) (asks_go stage is of_none of_none
      line on by (Step.Call 0) worker worker' before within caller (λ e. cc) (says_same _ _ _) at works last asks)
  departs_case false linked works last same = grind (arith, departs_not, conn, done_run, linked_is)

  pub departs_go : (end : AgentEnd) → worker.shown.end ≡ end → (before.spots on).last ≡ Some (conn by)
      → Departs stage.limit (stage.form on) (str on) worker worker' → DepartsGo stage by worker'
      before (λ run. after_departure stage.limit stage.told (conn by) run (on, stage.form on))
  departs_go AgentEnd.Done ends last departs =
      departs_case _ refl (ap (λ t. t.end) (sym at.shown) ∙ ends) last (if_done worker worker' _ ends departs)
  departs_go (AgentEnd.JournalFull place) ends last departs =
      let same = rw ends at departs in grind (arith, departs_not, conn, done_run)
  departs_go (AgentEnd.NoMemory cause) ends last departs =
      let same = rw ends at departs in grind (arith, departs_not, conn, done_run)

module _ {L : Type 0} (board : BoardShown L) (script : Script) (stage : Stage) (is : IsStage stage)
    (of : IsStageOf board script stage) where
  -- the structures that are left, one after another
  departs_each : (by : ℕ) (left : List (CellShown L)) (n : ℕ) (worker worker' : AtWork) (before : State)
      → AreFrom board n left → by ≤ stage.callers → IsWorker stage.cells by worker before
      → ((x : ℕ) → x < stage.cells → (before.spots x).last ≡ Some (conn by)) → DepartsEach n left worker worker'
      → DepartsGo stage by worker' before (λ run. fold (after_departure stage.limit stage.told (conn by))
      run (enumerate_from n (map (λ cell. cell.form) left)))
  departs_each by [] n worker worker' before are caller at last departs = grind (arith, departs_not)
  departs_each by (cell ∷ left) n worker worker' before are caller at last departs =
      let place = from_here board n cell left are in
      let within : n < stage.cells = omega (arith, of.cells, slice_get_within board.cells n cell place) in
      let made : StrForm → Run → Run = λ form run. after_departure stage.limit stage.told (conn by) run (n, form) in
      let behind : Run → Run = λ run. fold (after_departure stage.limit stage.told (conn by))
      run (enumerate_from (n + 1) (map (λ cell. cell.form) left)) in
      let one = departs_go stage is n by worker departs.0 before within caller at worker.shown.end refl (last n within)
      (grind (arith, str)) in
      let rest = departs_each by left (n + 1) departs.0 worker' one.after
      (from_next board n cell left are) caller one.is_worker (λ x inside. one.lasts x ∙ last x inside) departs.2 in
      record {
        after = rest.after;
        is_worker = rest.is_worker;
        others = others_then _ _ _ _ one.others rest.others;
        notes = λ x. rest.notes x ∙ one.notes x;
        lasts = λ x. rest.lasts x ∙ one.lasts x;
        goes_on = goes_where (λ known fits there run agrees. ap (λ f. behind (made f run)) (of.form n cell place))
            (goes_then one.goes_on rest.goes_on);
      }

  -- a caller that stopped doesn't depart
  idle_places : (conn : ConnId) (places : List (ℕ × StrForm)) (run : Run) → is_done run conn ≡ false
      → fold (after_departure stage.limit stage.told conn) run places ≡ run
  idle_places conn [] run stopped = refl
  idle_places conn (place ∷ places) run stopped = grind (arith, conn, idle_places conn places run stopped)

  -- the floor on which a caller heard at all structures
  abbrev ready_all : ℕ → Floor → Floor
  ready_all by floor = record {
    workers = set floor.workers by (heard_all board floor (conn by));
    tray = floor.tray;
    last = replicate (length board.cells) (Some (conn by));
  }

  hears_all : (by : ℕ) (floor : Floor) (before : State) → by ≤ stage.callers → IsFloor stage floor before
      → Known stage before → (before.shown by).end ≡ AgentEnd.Done
      → TurnGoes stage of_none of_none before (ready_all by floor) (λ run. run)
  hears_all by floor before caller at known works = record {
    after = heard_state_all by before;
    is_floor = floor_after stage by (heard_all board floor (conn by)) floor _ before _ caller at refl at.tray
        (length-replicate (length board.cells) (Some (conn by)) ∙ of.cells) at.note (λ x inside. get_or-replicate
        (length board.cells) x (Some (conn by)) None (omega (arith, of.cells)))
        (heard_all_worker board stage by floor before of.cells caller at known) (grind (arith, put_other, heard_pass));
    goes_on = goes_heard_all stage by before caller works;
  }

  closes_case : (by : ℕ) (floor floor' : Floor) (before : State)
      → by ≤ stage.callers → IsFloor stage floor before → Known stage before → (end : AgentEnd)
      → (before.shown by).end ≡ end → MatchBool (is_done_as end) ((worker : AtWork) × DepartsEach
      0 board.cells (heard_all board floor (conn by)) worker × (floor' ≡ record (with_worker (conn by) worker floor)
      { last = replicate (length board.cells) (Some (conn by)) })) (floor' ≡ floor) → TurnGoes
      stage of_none of_none before floor' (λ run. after_closing stage.limit stage.told script run (conn by))
  unfolding hears_all
  closes_case by floor floor' before caller at known AgentEnd.Done ends closes =
      let hears = hears_all by floor before caller at known ends in
      let go = departs_each _ _ 0 _ _ _ (λ j. (let same : j ≡ 0 + j = omega arith in ap (slice_get board.cells) same))
      caller (heard_all_worker board stage by floor before of.cells caller at known) (λ x inside. refl) closes.1 in
      turn_then hears (worker_turn by closes.0 (ready_all by floor) floor' caller hears.is_floor (grind (
        arith,
        worker_where,
        conn,
      )) (rw (set-set floor.workers by (heard_all board floor (conn by)) closes.0) closes.2))
  closes_case by floor floor' before caller at known (AgentEnd.JournalFull place) ends same =
      grind (arith, IsFloor, goes_where, of_none, conn, idle_places, transcript_is, goes_not)
  closes_case by floor floor' before caller at known (AgentEnd.NoMemory cause) ends same =
      grind (arith, IsFloor, goes_where, of_none, conn, idle_places, transcript_is, goes_not)

  pub closes_all : (conns : List ConnId) → All (λ conn. conn.0 ≤ stage.callers) conns → (floor floor' : Floor)
      (before : State) → IsFloor stage floor before → Known stage before → ClosesAll board conns floor floor' → TurnGoes
      stage of_none of_none before floor' (λ run. fold (after_closing stage.limit stage.told script) run conns)
  closes_all [] callers floor floor' before at known closes = grind (arith, IsFloor, goes_not, of_none)
  closes_all (conn ∷ conns) callers floor floor' before at known closes =
      let caller = All-head (λ conn. conn.0 ≤ stage.callers) conn conns callers in
      let first = closes_case _ _ _ _ caller at known (before.shown conn.0).end refl (grind (arith, conn)) in
      let rest = closes_all conns (All-tail (λ conn. conn.0 ≤ stage.callers) conn conns callers)
      closes.0 floor' first.after first.is_floor (first.goes_on.known known) closes.2 in
      turn_then first rest
