-- A line of a script at a board, and all lines, against the run by the machine alone.
use Rattle.plex_agent.proofs.Imports.{refl, ◌≡◌, ◌≢◌, ℕ, ◌≤◌, ◌<◌, List, length, set, Option, None, Some, sym, ap, ◌∙◌, arith, length-set, slice_index_or, if◌then◌else◌, get_or-set_same, get_or-set_other, set-get_or, Transcript, Run, PassShown, pass_at, with_pass, note_in, AtWork, Floor, worker_of, heard_from_last, AgentEnd, Sight, IsAnyTold, All-head, ltb-true, each_sight, set-set, ◌*◌, nat_lt, true, [], ◌∷◌, map, slice_get, subst, Step, AnyAsk, Shown, AnyHistory, sight, indices_of, shown_on, act_made, all_steps_made, post_made, take_made, note_of, with_any_note, Asks, Tests, TestsWord, ShowsOnly, RunsOut, Posts, worker_after_take, Bool, false, MatchBool, ◌⊎◌, inl, inr, Act, Line, first_step, test_shown, word_shown, CellShown, IfDone, is_done_as, with_worker, PlaysAct, fold, All, All-tail, slice_get_within, Script, after_line, is_done, BoardShown, cell_on, is_working, PlaysLine, PlaysLines, NoMemory, want}
use Rattle.plex_agent.proofs.Spots.{conn, str, put_same, put_other, Spot, LastKnows, changed, noticed, known_noticed, at_front, moved}
use Rattle.plex_agent.proofs.Fits.{fits_put, heard_as, heard_pass}
use Rattle.plex_agent.proofs.Stages.{Stage, State, Known, Shows, Goes, acted, known_acted, fits_acted, IsStage, goes_then, Agrees, goes_not, goes_where}
use Rattle.plex_agent.proofs.Workers.{pass_same, pass_other, IsWorker, OthersSame, by_place, IsFloor, floor_after, WorkerGoes, asks_go}
use Rattle.plex_agent.proofs.ExactActs.{looked, tested_pass, told_bit, told_word, told_point, goes_test, goes_bad, goes_take, goes_post}
use Rattle.plex_agent.proofs.ExactMoves.{SaysLess, heard_state, goes_heard, transcript_is}
use Rattle.plex_board.specs.Serial as serial
use Rattle.plex_agent.proofs.Agreements.{number_shown}

-- ---- a step at one structure, as workers see it

-- a table once one place of it was set
read_set : {X : Type 0} (xs : List X) (on : ℕ) (x none : X) (was now : ℕ → X) → on < length xs → now on ≡ x
    → ((i : ℕ) → i ≢ on → now i ≡ was i) → ((i : ℕ) → i < length xs → slice_index_or xs i none ≡ was i)
    → (i : ℕ) → i < length xs → slice_index_or (set xs on x) i none ≡ now i
read_set {X} xs on x none was now within here others before i inside =
    grind (arith, by_place, get_or-set_same, get_or-set_other)

module _ (on by : ℕ) (pass : PassShown) (rest : Spot) (transcript : Transcript) (before : State) where
  abbrev pub turned : State
  turned = acted on by (changed by pass rest (before.spots on)) transcript before

  spot_here : turned.spots on ≡ changed by pass rest (before.spots on)
  spot_here = put_same on (changed by pass rest (before.spots on)) before.spots

  spot_there : (x : ℕ) → x ≢ on → turned.spots x ≡ before.spots x
  spot_there x apart = put_other on (changed by pass rest (before.spots on)) before.spots x apart

  turned_others : OthersSame by before turned
  turned_others = grind (arith, by_place, Spot, spot_here, put_other, spot_there)

  pub turned_worker : (cells : ℕ) (worker worker' : AtWork) → on < cells → IsWorker cells by worker before
      → worker'.desk ≡ with_pass (str on) pass worker.desk → worker'.shown ≡ transcript
      → IsWorker cells by worker' turned
  turned_worker cells worker worker' within is desk shown =
      grind (arith, length-set, by_place, str, pass_same, put_same, Spot, spot_here, pass_other, spot_there)

  -- the floor that such a turn leaves
  pub turned_floor : (stage : Stage) (worker worker' : AtWork) (floor : Floor) → on < stage.cells → by ≤ stage.callers
      → IsFloor stage floor before → IsWorker stage.cells by worker before
      → worker'.desk ≡ with_pass (str on) pass worker.desk → worker'.shown ≡ transcript → IsFloor stage (record {
        workers = set floor.workers by worker';
        tray = set floor.tray on rest.note;
        last = set floor.last on rest.last;
      }) turned
  turned_floor stage worker worker' floor within caller is mine desk shown =
      floor_after stage by worker' floor _ before turned caller is refl (length-set floor.tray on rest.note ∙ is.tray)
      (length-set floor.last on rest.last ∙ is.lasts) (λ x inside. read_set floor.tray on rest.note None
      (λ x. (before.spots x).note) (λ x. (turned.spots x).note) (omega (arith, is.tray)) (ap (λ s. s.note) spot_here)
      (λ x apart. ap (λ s. s.note) (spot_there x apart)) (λ x inside. is.note x (omega (arith, is.tray)))
      x (omega (arith, is.tray))) (λ x inside. read_set floor.last on rest.last None (λ x. (before.spots x).last)
      (λ x. (turned.spots x).last) (omega (arith, is.lasts)) (ap (λ s. s.last) spot_here)
      (λ x apart. ap (λ s. s.last) (spot_there x apart)) (λ x inside. is.last x (omega (arith, is.lasts)))
      x (omega (arith, is.lasts))) (turned_worker stage.cells worker worker' within mine desk shown) turned_others

-- what stands there, put there again
pub floor_again : (stage : Stage) (on : ℕ) (floor : Floor) (state : State)
    → on < stage.cells → IsFloor stage floor state → (set floor.tray on (state.spots on).note ≡ floor.tray)
    × (set floor.last on (state.spots on).last ≡ floor.last)
floor_again stage on floor state within is = grind (arith, str, set-get_or)

-- ---- hearings

-- the worker is told what the caller is told
pub heard_desk : (stage : Stage) (on by : ℕ) (worker : AtWork) (floor : Floor) (state : State)
    → on < stage.cells → IsFloor stage floor state → Known stage state → length worker.desk.passes ≡ stage.cells
    → pass_at worker.desk (str on) ≡ (state.spots on).passes by → heard_from_last floor (conn by)
    worker (str on) ≡ record worker { desk = with_pass (str on) (heard_pass by (state.spots on)) worker.desk }
heard_desk stage on by worker floor state within is known size pass_is =
    grind (arith, conn, str, set-get_or, LastKnows, heard_as)

-- ---- out of memory

pub goes_out : (stage : Stage) (shows shows' : Shows) (on by : ℕ) (cause : NoMemory) (goes : Run → Run)
    (state : State) → on < stage.cells → by ≤ stage.callers → (state.shown by).end ≡ AgentEnd.Done
    → Goes stage shows shows' state (turned on by ((state.spots on).passes by) (state.spots on)
    (record (state.shown by) { end = AgentEnd.NoMemory cause }) state) goes
goes_out stage shows shows' on by cause goes state within caller works =
    grind (arith, Spot, known_acted, noticed, known_noticed, fits_acted, fits_put, put_other, put_same)

-- ---- what is said of callers

-- of all callers at all structures; of all but one at one; of none
abbrev pub of_all : Shows
of_all x c = Unit {0}

abbrev pub of_others : ℕ → ℕ → Shows
of_others on by x c = x ≡ on → c ≡ by → ⊥

abbrev pub of_none : Shows
of_none x c = ⊥

less_heard : (on by : ℕ) → SaysLess of_all (of_others on by) on by
less_heard on by = record { others = λ c apart is. tt; elsewhere = λ x c apart is. tt }

more_done : (on by : ℕ) → SaysLess (of_others on by) of_all on by
more_done on by = grind arith

silent : (on by : ℕ) → of_others on by on by → ⊥
silent on by said = said refl refl

-- ---- where a turn leads

pub record TurnGoes (stage : Stage) (shows shows' : Shows) (before : State) (floor : Floor)
    (goes : Run → Run) : Type 1 where
  pub after : State
  pub is_floor : IsFloor stage floor after
  pub goes_on : Goes stage shows shows' before after goes

pub turn_then : {stage : Stage} {shows shows' shows'' : Shows} {before : State} {floor floor' : Floor}
    {goes goes' : Run → Run} (first : TurnGoes stage shows shows' before floor goes) → TurnGoes stage
    shows' shows'' first.after floor' goes' → TurnGoes stage shows shows'' before floor' (λ run. goes' (goes run))
turn_then first rest = grind (arith, goes_then)

pub if_done : (before after : AtWork) (acts : Type 0)
    → before.shown.end ≡ AgentEnd.Done → IfDone before after acts → acts
if_done before after acts works done = subst (λ e. MatchBool (is_done_as e) acts (after ≡ before)) works done

-- the caller's worker is the one that is left, and nothing happened to notes and to who acted last
pub worker_turn : {stage : Stage}
    {shows shows' : Shows} {before : State} {goes : Run → Run} (by : ℕ) (worker : AtWork) (floor floor' : Floor)
    → by ≤ stage.callers → IsFloor stage floor before → WorkerGoes stage shows shows' by worker before goes
    → floor' ≡ record floor { workers = set floor.workers by worker } → TurnGoes stage shows shows' before floor' goes
worker_turn {stage} {shows} {shows'} {before} by worker floor floor' caller at go floor_is = record {
  after = go.after;
  is_floor = subst (λ f. IsFloor stage f go.after) (sym floor_is) (floor_after stage by worker floor _ before go.after
      caller at refl at.tray at.lasts (λ x inside. at.note x inside ∙ sym (go.notes x))
      (λ x inside. at.last x inside ∙ sym (go.lasts x)) go.is_worker go.others);
  goes_on = go.goes_on;
}

-- ---- turns at a structure

-- a turn begins by a caller whose worker is this; where it doesn't hear before, the worker is the floor's
record Begins (stage : Stage) (on by : ℕ) (self : AtWork) (floor : Floor) (before : State) : Type 0 where
  within : on < stage.cells
  caller : by ≤ stage.callers
  at : IsFloor stage floor before
  mine : IsWorker stage.cells by self before
  works : (before.shown by).end ≡ AgentEnd.Done

module _ {stage : Stage} {on by : ℕ} {self : AtWork} {floor : Floor} {before : State}
    (begins : Begins stage on by self floor before) (floor' : Floor) (worker : AtWork) where
  -- the pass and the transcript became these, and the note and who acted last are as in another spot
  turn : {shows shows' : Shows} {goes : Run → Run} (pass : PassShown) (rest : Spot) (transcript : Transcript)
      → worker.desk ≡ with_pass (str on) pass self.desk → worker.shown ≡ transcript → floor' ≡ record {
        workers = set floor.workers by worker;
        tray = set floor.tray on rest.note;
        last = set floor.last on rest.last;
      } → Goes stage shows shows' before (turned on by pass rest transcript before) goes
      → TurnGoes stage shows shows' before floor' goes
  turn pass rest transcript desk shown floor_is goes_on = record {
    after = turned on by pass rest transcript before;
    is_floor = subst (λ f. IsFloor stage f (turned on by pass rest transcript before)) (sym floor_is) (turned_floor
        on by pass rest transcript before stage self worker floor begins.within begins.caller begins.at begins.mine desk
        shown);
    goes_on = goes_on;
  }

  module _ (floor_is : floor' ≡ record floor { workers = set floor.workers by worker }) where
    -- the note and who acted last stay as they were
    plain_turn : {shows shows' : Shows} {goes : Run → Run} (pass : PassShown) (rest : Spot) (transcript : Transcript)
        → rest.note ≡ (before.spots on).note → rest.last ≡ (before.spots on).last
        → worker.desk ≡ with_pass (str on) pass self.desk → worker.shown ≡ transcript → Goes stage shows
        shows' before (turned on by pass rest transcript before) goes → TurnGoes stage shows shows' before floor' goes
    plain_turn pass rest transcript note last desk shown goes_on = turn pass rest transcript desk shown
        (let again = floor_again stage on floor before begins.within begins.at in floor_is ∙ cc) goes_on

    bad_turn : (item : Shown) (item_of : AnyHistory → Shown) → ShowsOnly item self worker
        → ((x : ℕ) → shown_on (str x) item ≡ None) → ((entries : AnyHistory) → item_of entries ≡ item)
        → TurnGoes stage of_all of_all before floor' (looked on by item_of)
    bad_turn item item_of shows none item_is = plain_turn ((before.spots on).passes by) (before.spots on)
        _ refl refl (grind (arith, str, set-get_or)) (grind arith)
        (goes_bad stage of_all on by before begins.within begins.caller begins.works item item_of none item_is)

    out_turn : {shows shows' : Shows} (goes : Run → Run) → RunsOut self worker
        → TurnGoes stage shows shows' before floor' goes
    out_turn {shows} {shows'} goes out =
        plain_turn ((before.spots on).passes by) (before.spots on) _ refl refl (grind (arith, str, set-get_or))
        (grind arith) (goes_out stage shows shows' on by want goes before begins.within begins.caller begins.works)

    -- ---- behind a hearing

    module _ (is : IsStage stage) (last : (before.spots on).last ≡ Some (conn by)) where
      calls_turn : (line : Option AnyAsk) (first : Step) → first ≢ Step.Rest
          → Asks stage.limit (stage.form on).kind line (str on) first self worker → TurnGoes stage (of_others on by)
          of_all before floor' (all_steps_made stage.limit stage.told (stage.form on) line (conn by) (str on) first)
      calls_turn line first goes asks = grind (arith, worker_turn, asks_go, more_done)

      bit_turn : (index : ℕ) → nat_lt index (stage.form on).vector ≡ true → Tests (str on) index self worker
          → TurnGoes stage (of_others on by) of_all before floor'
          (looked on by (test_shown (stage.form on) (str on) index (conn by)))
      bit_turn index inside tests =
          let pass_is = begins.mine.passes on begins.within in
          let was = (before.spots on).passes by in
          let seen : Sight = record { index = index; bit = tests.bit; at = tests.at; sure = was.sure } in
          let pass = tested_pass tests.at (seen ∷ []) was in
          let AreTold = IsAnyTold (stage.form on) (stage.entries on) (conn by) in
          plain_turn pass (at_front by pass (before.spots on)) _ refl (sym last) (tests.desk ∙ cc)
          (tests.shown ∙ cc) (goes_test stage is _ _ on by before begins.within begins.caller
          last begins.works (more_done on by) tests.at (seen ∷ []) (Shown.Test (str on) index tests.bit tests.at)
          (test_shown (stage.form on) (str on) index (conn by)) (subst (λ p. p.known ≤ tests.at) pass_is tests.later)
          (number_shown _ tests.at _ (λ x. refl)) (λ least size told. rw (
            inside,
            size,
            told_bit _ _ _ _ (All-head AreTold seen [] told) least (ltb-true index (stage.form on).vector inside),
          ) refl) (λ told. told_point _ _ _ _ (All-head AreTold seen [] told)))

      word_turn : (word : ℕ) → nat_lt (32 * word) (stage.form on).vector ≡ true
          → TestsWord (str on) word self worker → TurnGoes stage (of_others on by) of_all before floor'
          (looked on by (word_shown (stage.form on) (str on) word (conn by)))
      word_turn word inside tests =
          let pass_is = begins.mine.passes on begins.within in
          let was = (before.spots on).passes by in
          let seen = map (sight tests.bits tests.at was.sure) (indices_of word) in
          let pass = tested_pass tests.at seen was in
          let AreTold = IsAnyTold (stage.form on) (stage.entries on) (conn by) in
          plain_turn pass (at_front by pass (before.spots on)) _ refl (sym last) (tests.desk ∙ cc) (tests.shown ∙ cc)
          (goes_test stage is _ _ on by before begins.within begins.caller last begins.works (more_done on by) tests.at
          seen (Shown.Word (str on) word tests.bits tests.at) (word_shown (stage.form on) (str on) word (conn by))
          (subst (λ p. p.known ≤ tests.at) pass_is tests.later) (number_shown _ tests.at _ (λ x. refl))
          (λ least size told. rw (inside, size, told_word _ _ _ _ _ tests.at was.sure told least tests.fits) refl)
          (λ told. told_point _ _ _ _ (each_sight AreTold word tests.bits tests.at was.sure 0 told (omega arith))))

  -- ---- notes

  post_turn : Posts (str on) self worker → floor' ≡ record floor {
    workers = set floor.workers by worker;
    tray = set floor.tray on (Some (note_of (pass_at self.desk (str on))));
  } → TurnGoes stage of_all of_all before floor' (post_made (conn by) (str on))
  post_turn posts floor_is =
      let pass = (before.spots on).passes by in
      let pass_is = begins.mine.passes on begins.within in
      let again = floor_again stage on floor before begins.within begins.at in
      turn pass (record (before.spots on) { note = Some (note_of pass) }) _ (grind (arith, str, set-get_or))
      (grind arith) (floor_is ∙ cc) (goes_post stage of_all on by before begins.within begins.caller begins.works tt)

take_turn : {stage : Stage} {on by : ℕ} {self : AtWork} {floor : Floor} {before : State}
    (begins : Begins stage on by self floor before) (floor' : Floor) → floor' ≡ record floor {
      workers = set floor.workers by (worker_after_take (str on) (note_in floor.tray (str on)) self);
    } → TurnGoes stage of_all of_all before floor' (take_made (conn by) (str on))
take_turn {stage} {on} {by} {self} {floor} {before} begins floor' floor_is =
    let spot = before.spots on in
    plain_turn begins floor' _ floor_is (with_any_note spot.note (spot.passes by)) spot _ refl refl (grind arith)
    (grind arith) (goes_take stage of_all on by before begins.within begins.caller begins.works tt)

-- ---- an act

module _ (stage : Stage) (is : IsStage stage) (on by : ℕ) (within : on < stage.cells) (caller : by ≤ stage.callers)
    (floor floor' : Floor) (before : State) (at : IsFloor stage floor before) (known : Known stage before)
    (works : (before.shown by).end ≡ AgentEnd.Done) where
  abbrev self : AtWork
  self = worker_of floor (conn by)

  abbrev ready_self : AtWork
  ready_self = heard_from_last floor (conn by) self (str on)

  abbrev heard_now : State
  heard_now = heard_state on by before

  begins : Begins stage on by self floor before
  begins = record { within = within; caller = caller; at = at; mine = at.worker by caller; works = works }

  -- the floor that a turn leaves which is counted
  abbrev counted : AtWork → Floor
  counted worker = record floor { workers = set floor.workers by worker; last = set floor.last on (Some (conn by)) }

  heard_is : ready_self ≡ record self { desk = with_pass (str on) (heard_pass by (before.spots on)) self.desk }
  heard_is = heard_desk stage on by self floor before within at known begins.mine.size (begins.mine.passes on within)

  heard_floor : IsFloor stage (counted ready_self) heard_now
  heard_floor =
      let pass = heard_pass by (before.spots on) in
      let again = floor_again stage on floor before within at in
      subst (λ t. IsFloor stage (record (counted ready_self) { tray = t }) heard_now) again.0
      (turned_floor on by pass (at_front by pass (before.spots on)) (before.shown by) before stage self ready_self
      floor within caller at begins.mine (ap (λ w. w.desk) heard_is) (ap (λ w. w.shown) heard_is ∙ begins.mine.shown))

  heard : Begins stage on by ready_self (counted ready_self) heard_now
  heard =
      let pass = heard_pass by (before.spots on) in
      record {
        within = within;
        caller = caller;
        at = heard_floor;
        mine = turned_worker on by pass (at_front by pass (before.spots on)) (before.shown by) before stage.cells self
            ready_self within begins.mine (ap (λ w. w.desk) heard_is) (ap (λ w. w.shown) heard_is ∙ begins.mine.shown);
        works = ap (λ (t : Transcript). t.end) (put_same by (before.shown by) before.shown) ∙ works;
      }

  heard_last : (heard_now.spots on).last ≡ Some (conn by)
  heard_last = grind (arith, Spot, put_same, moved, heard_pass)

  -- a turn behind the hearing
  heard_then : {goes : Run → Run} (worker : AtWork) → floor' ≡ counted worker
      → (floor' ≡ record (counted ready_self) { workers = set (counted ready_self).workers by worker }
      → TurnGoes stage (of_others on by) of_all heard_now floor' goes) → TurnGoes stage of_all of_all before floor' goes
  heard_then worker floor_is acts =
      let hears : TurnGoes stage of_all (of_others on by) before (counted ready_self) (λ run. run) =
      grind (arith, heard_floor, goes_heard, less_heard, silent) in
      turn_then hears (acts (rw (set-set floor.workers by ready_self worker) floor_is))

  -- the caller's work goes on, so it did this
  acts_heard : (worker : AtWork) (acts : Type 0) → IfDone ready_self worker acts → acts
  acts_heard worker acts = grind (arith, if_done)

  -- the caller as it begins an act that is counted, or isn't
  abbrev begun : Bool → AtWork
  begun counts = if counts then ready_self else self

  -- a test, or the answer that the vector ends before it
  looked_turn : (Tested : AtWork → AtWork → Type 0) (bad : Shown) (item_of : AnyHistory → Shown) (worker : AtWork)
      (b : Bool) → (floor' ≡ record (counted ready_self) { workers = set (counted ready_self).workers by worker }
      → b ≡ true → Tested ready_self worker → TurnGoes stage (of_others on by) of_all heard_now
      floor' (looked on by item_of)) → ((x : ℕ) → shown_on (str x) bad ≡ None) → (b ≡ false → (entries : AnyHistory)
      → item_of entries ≡ bad) → IfDone (begun b) worker (MatchBool b (Tested (begun b) worker) (ShowsOnly
      bad (begun b) worker) ⊎ RunsOut (begun b) worker) → floor' ≡ record (with_worker (conn by) worker floor) {
        last = if b then set floor.last on (Some (conn by)) else floor.last;
      } → TurnGoes stage of_all of_all before floor' (looked on by item_of)
  looked_turn Tested bad item_of worker true tested none outside acts floor_is =
      heard_then worker floor_is (λ floor_is'. elim (acts_heard worker _ acts) [
        | inl tests ↦ tested floor_is' refl tests
        | inr out ↦ out_turn heard floor' worker floor_is' _ out
      ])
  looked_turn Tested bad item_of worker false tested none outside acts floor_is =
      elim (if_done self worker _ (ap (λ t. t.end) begins.mine.shown ∙ works) acts) [
        | inl shows ↦ bad_turn begins floor' worker floor_is bad item_of shows none (outside refl)
        | inr out ↦ out_turn begins floor' worker floor_is _ out
      ]

  abbrev line_here : ℕ → ℕ → Act → Line
  line_here number retry done = record { at = number; by = conn by; on = str on; act = done; retry = retry }

  pub act_turn : {L : Type 0} (cell : CellShown L) (number retry : ℕ) (done : Act) → PlaysAct (record cell
      { form = stage.form on; limit = stage.limit }) (line_here number retry done) done floor floor' → TurnGoes stage
      of_all of_all before floor' (act_made stage.limit stage.told (stage.form on) (line_here number retry done) done)
  act_turn cell number retry (Act.Call asked) (worker, turns, floor_is) = heard_then worker floor_is (λ floor_is'.
      calls_turn heard floor' worker floor_is' is heard_last (Some asked) (Step.Call retry) (λ e. cc)
      (acts_heard worker _ turns))
  act_turn cell number retry Act.Events (worker, turns, floor_is) = heard_then worker floor_is (λ floor_is'.
      calls_turn heard floor' worker floor_is' is heard_last None (first_step Act.Events retry) (λ e. cc)
      (acts_heard worker _ turns))
  act_turn cell number retry (Act.Test index) (worker, turns, floor_is) = looked_turn (Tests (str on) index)
      (Shown.BadIndex (str on) index false (stage.form on).vector) (test_shown (stage.form on) (str on) index (conn by))
      worker (nat_lt index (stage.form on).vector) (λ floor_is'. bit_turn heard floor' worker floor_is' is heard_last
      index) (λ x. refl) (λ outside entries. rw outside refl) turns floor_is
  act_turn cell number retry (Act.TestWord word) (worker, turns, floor_is) = looked_turn (TestsWord (str on) word)
      (Shown.BadIndex (str on) word true (stage.form on).vector) (word_shown (stage.form on) (str on) word (conn by))
      worker (nat_lt (32 * word) (stage.form on).vector) (λ floor_is'. word_turn heard floor' worker floor_is' is
      heard_last word) (λ x. refl) (λ outside entries. rw outside refl) turns floor_is
  act_turn cell number retry Act.Post (worker, posts, floor_is) = post_turn begins floor' worker posts floor_is
  act_turn cell number retry Act.Take floor_is = take_turn begins floor' floor_is

-- ---- a board and its script

pub record IsStageOf {L : Type 0} (board : BoardShown L) (script : Script) (stage : Stage) : Type 0 where
  pub cells : length board.cells ≡ stage.cells
  pub forms : map (λ cell. cell.form) board.cells ≡ script.structures
  pub form : (x : ℕ) (cell : CellShown L) → slice_get board.cells x ≡ Some cell → cell.form ≡ stage.form x
  pub limit : (x : ℕ) (cell : CellShown L) → slice_get board.cells x ≡ Some cell → cell.limit ≡ stage.limit
  pub policy : (x : ℕ) (cell : CellShown L) → slice_get board.cells x ≡ Some cell
      → slice_get script.structures x ≡ Some (stage.form x)

module _ {L : Type 0} (board : BoardShown L) (script : Script) (stage : Stage) (is : IsStage stage)
    (of : IsStageOf board script stage) where
  -- ---- a line

  module _ (line : Line) (caller : line.by.0 ≤ stage.callers) (floor floor' : Floor) (before : State)
      (at : IsFloor stage floor before) (known : Known stage before) where
    working_is : (end : AgentEnd) → (before.shown line.by.0).end ≡ end → is_working floor line.by ≡ is_done_as end
    working_is end ends = ap (λ t. is_done_as t.end) (at.worker line.by.0 caller).shown ∙ ap is_done_as ends

    done_is : (end : AgentEnd) → (before.shown line.by.0).end ≡ end → (run : Run) → Agrees stage of_all before run
        → is_done run line.by ≡ serial.is_done_as end
    done_is end ends run agrees = grind (arith, transcript_is, of_all)

    idle : (cell : CellShown L) → cell_on board line.on ≡ Some cell
        → (end : AgentEnd) → (before.shown line.by.0).end ≡ end → serial.is_done_as end ≡ false → floor' ≡ floor
        → TurnGoes stage of_all of_all before floor' (λ run. after_line stage.limit stage.told script run line)
    idle cell there end ends stopped floor_is = grind (arith, IsFloor, goes_where, of_all, done_is, goes_not)

    line_case : (cell : CellShown L) → cell_on board line.on ≡ Some cell → (end : AgentEnd) → (before.shown
        line.by.0).end ≡ end → MatchBool (is_done_as end) (PlaysAct cell line line.act floor floor') (floor' ≡ floor)
        → TurnGoes stage of_all of_all before floor' (λ run. after_line stage.limit stage.told script run line)
    line_case cell there AgentEnd.Done ends played =
        let form_is = of.form line.on.0 cell there in
        let turn = act_turn stage is line.on.0 line.by.0 (grind (arith, slice_get_within))
        caller floor floor' before at known ends cell line.at line.retry line.act (subst (λ f. PlaysAct
        (record cell { form = f; limit = stage.limit }) line line.act floor floor') form_is (subst (λ l. PlaysAct
        (record cell { limit = l }) line line.act floor floor') (of.limit line.on.0 cell there) played)) in
        record {
          after = turn.after;
          is_floor = turn.is_floor;
          goes_on = goes_where (λ known here fits run agrees. rw (
            of.policy line.on.0 cell there,
            done_is _ ends _ agrees,
          ) refl) turn.goes_on;
        }
    line_case cell there (AgentEnd.JournalFull place) ends same = idle _ there _ ends refl same
    line_case cell there (AgentEnd.NoMemory cause) ends same = idle cell there (AgentEnd.NoMemory cause) ends refl same

    pub line_goes : PlaysLine board line floor floor'
        → TurnGoes stage of_all of_all before floor' (λ run. after_line stage.limit stage.told script run line)
    line_goes plays = grind (arith, line_case, working_is)

  -- ---- all lines

  pub lines_go : (lines : List Line) → All (λ line. line.by.0 ≤ stage.callers) lines → (floor floor' : Floor)
      (before : State) → IsFloor stage floor before → Known stage before → PlaysLines board lines floor floor'
      → TurnGoes stage of_all of_all before floor' (λ run. fold (after_line stage.limit stage.told script) run lines)
  lines_go [] callers floor floor' before at known plays = grind (arith, IsFloor, goes_not, of_all)
  lines_go (line ∷ lines) callers floor floor' before at known plays =
      let first = line_goes line (All-head (λ (line : Line). line.by.0 ≤ stage.callers) line lines callers) floor
      plays.0 before at known plays.1 in
      let rest = lines_go lines (All-tail (λ (line : Line). line.by.0 ≤ stage.callers) line lines callers)
      plays.0 floor' first.after first.is_floor (first.goes_on.known known) plays.2 in
      turn_then first rest
