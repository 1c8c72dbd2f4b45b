-- What one step of a caller at a structure keeps, and the run that goes with it: a hearing, a call, and a
-- next call that wasn't made.
use Rattle.plex_agent.proofs.Imports.{length-set, get-set_same, get-set_other, length, ◌≡◌, ◌≢◌, ℕ, ◌≤◌, ◌<◌, [], ◌∷◌, ◌++◌, set, slice_get, Some, refl, sym, ap, subst, ◌∙◌, arith, All, fold_push, StrForm, CfId, Telling, Told, AnyAsk, AnyHistory, AgentEnd, Transcript, any_length, IsAnyPoint, any_take, any_next, end_of, last_number, calls_rise, IsFrontOf, point_end, seen_on, Run, shown_to, stopped_at, transcript_of, transcript_at, AnyReply, PassShown, with_call, IsLater, IsAnyTold, set_same, Shown, ConnId, NoMemory}
use Rattle.plex_agent.proofs.Spots.{conn, str, put, put_all, put_same, put_other, Spot, IsKnown, LastKnows, event, changed, at_front, moved, with_event, called, known_moved, known_called}
use Rattle.plex_agent.proofs.Fits.{FitsAt, events_front, fits_put, fits_called, IsNextCall, is_next_call, heard_pass, heard_is, heard_complete}
use Rattle.plex_agent.proofs.Agreements.{AgreesAt, IsSeen, agrees_put, agrees_elsewhere, sure_in, seen_push, seen_none, number_shown, lasts_put, known_in}
use Rattle.plex_agent.proofs.Stages.{Stage, IsStage, State, Known, Fits, Shows, Agrees, Goes, acted, known_acted, fits_acted, fits_here, RunGoes}

-- ---- the run

-- more transcripts, and nothing else
pub run_shows : (stage : Stage) (shows : Shows) (on by : ℕ) (state : State) (transcript : Transcript) (run : Run)
    → on < stage.cells
    → Agrees stage shows state run → RunGoes on by (any_take (end_of (state.spots on).events) (stage.entries on))
    (sure_in (state.spots on).note) transcript run (record run { transcripts = set run.transcripts by transcript })
run_shows stage shows on by state transcript run within agrees = grind (arith, set_same)

pub transcript_is : (stage : Stage) (shows : Shows) (by : ℕ) (state : State) (run : Run) → by ≤ stage.callers
    → Agrees stage shows state run → transcript_of run (conn by) ≡ state.shown by
transcript_is stage shows by state run caller agrees = ap transcript_at (agrees.shown by caller)

-- ---- who acted last

-- of this caller at this structure nothing more is said than before, and of all others no more either
pub record SaysLess (shows shows' : Shows) (on by : ℕ) : Type 0 where
  pub others : (c : ℕ) → c ≢ by → shows' on c → shows on c
  pub elsewhere : (x c : ℕ) → x ≢ on → shows' x c → shows x c

pub says_same : (shows : Shows) (on by : ℕ) → SaysLess shows shows on by
says_same shows on by = record { others = λ c apart is. is; elsewhere = λ x c apart is. is }

pub knows_front : (callers by : ℕ) (spot : Spot) → IsKnown callers spot → spot.last ≡ Some (conn by)
    → (spot.passes by).known ≡ spot.front
knows_front callers by spot known last = grind (arith, LastKnows, conn)

-- ---- a step

-- what a step makes of the run
pub record Makes (stage : Stage) (shows : Shows) (on by : ℕ) (state : State) (pass : PassShown) (rest : Spot)
    (transcript : Transcript) (run run' : Run) : Type 0 where
  pub run_goes : RunGoes on by
      (any_take (end_of rest.events) (stage.entries on)) (sure_in rest.note) transcript run run'
  pub noted : known_in rest.note ≡ sure_in rest.note
  pub front_is : rest.front ≡ end_of rest.events
  pub seen : transcript.end ≡ AgentEnd.Done → IsSeen (str on) pass transcript.items (shows on by)
  pub lasts : (c : ConnId) → rest.last ≡ Some c → (put by pass (state.spots on).passes c.0).sure ≡ rest.front

abbrev pub heard_state : ℕ → ℕ → State → State
heard_state on by state =
    acted on by (moved by (heard_pass by (state.spots on)) (state.spots on)) (state.shown by) state

abbrev pub stopped_state : ℕ → ℕ → PassShown → AgentEnd → State → State
stopped_state on by pass end state =
    acted on by (moved by pass (state.spots on)) (record (state.shown by) { end = end }) state

-- ---- the front

-- what a caller that stopped knows is a point of the history
pub stop_point : (stage : Stage) (on by : ℕ) (pass : PassShown) (end : AgentEnd) (state : State) → on < stage.cells
    → by ≤ stage.callers → end ≢ AgentEnd.Done → Fits stage (stopped_state on by pass end state)
    → IsAnyPoint (stage.entries on) pass.known
stop_point stage on by pass end state within caller stops fits =
    let spot = moved by pass (state.spots on) in
    let transcript = record (state.shown by) { end = end } in
    let mine = ap (λ s. s.passes by) (put_same on spot state.spots) ∙ put_same by pass (state.spots on).passes in
    subst (λ p. IsAnyPoint (stage.entries on) p.known) mine (grind (arith, put_same))

module _ (stage : Stage) (is : IsStage stage) (on by : ℕ) (pass : PassShown) (transcript : Transcript)
    (state : State) (within : on < stage.cells) (last : (state.spots on).last ≡ Some (conn by))
    (later : ((state.spots on).passes by).known ≤ pass.known) (known : Known stage state) (fits : Fits stage (acted
    on by (moved by pass (state.spots on)) transcript state)) (point : IsAnyPoint (stage.entries on) pass.known)
    (front_is : (state.spots on).front ≡ end_of (state.spots on).events) where
  -- the front is the number of the last call, so nothing was in flight
  pub still_front : (pass.known ≡ end_of (state.spots on).events) × (pass.known ≡ (state.spots on).front)
  still_front = grind (arith, knows_front, FitsAt, moved, fits_here, point_end, calls_rise)

  pub full_here : stage.limit ≤ pass.known
      → stage.limit ≤ any_length (any_take (end_of (state.spots on).events) (stage.entries on))
  full_here full = grind (arith, FitsAt, moved, fits_here, IsFrontOf, events_front, still_front)

-- ---- steps that are no calls

module _ (stage : Stage) (shows shows' : Shows)
    (on by : ℕ) (state : State) (within : on < stage.cells) (caller : by ≤ stage.callers)
    (works : (state.shown by).end ≡ AgentEnd.Done) (less : SaysLess shows shows' on by) where
  abbrev spot : Spot
  spot = state.spots on

  abbrev FitsHere : Spot → Type 0
  FitsHere now = FitsAt (stage.form on) (stage.entries on) stage.callers now

  -- the pass and the transcript became these, and what else is told of the structure is as in another one
  pub goes_changed : (pass : PassShown) (rest : Spot) (transcript : Transcript) (goes : Run → Run) → ((x : ℕ) → x ≢ on
      → seen_on (str x) transcript.items ≡ seen_on (str x) (state.shown by).items) → (IsKnown stage.callers spot
      → IsKnown stage.callers (changed by pass rest spot) × (FitsHere (changed by pass rest spot) → FitsHere spot))
      → (Known stage state → Fits stage (acted on by (changed by pass rest spot) transcript state) → (run : Run)
      → Agrees stage shows state run → Makes stage shows' on by state pass rest transcript run (goes run))
      → Goes stage shows shows' state (acted on by (changed by pass rest spot) transcript state) goes
  goes_changed pass rest transcript goes elsewhere keeps makes =
      let after = changed by pass rest spot in
      record {
        known = λ known. known_acted stage on by after transcript state (λ inside. (keeps (known on within)).0) known;
        back = λ known fits. fits_acted _ _ _ _ _ _ (λ inside. (keeps (known on within)).1)
            (λ c apart. put_other by pass spot.passes c apart) works fits;
        agrees = λ known fits run agrees.
            let at = agrees.at on within in
            let made = makes known fits run agrees in
            let did = made.run_goes in
            let history = any_take (end_of rest.events) (stage.entries on) in
            record {
              histories = ap length did.histories ∙ length-set run.histories on history ∙ agrees.histories;
              transcripts = ap length did.transcripts ∙ length-set run.transcripts by transcript ∙ agrees.transcripts;
              numbers = ap length did.numbers ∙ length-set run.posted on (sure_in rest.note) ∙ agrees.numbers;
              shown = put_all (λ c transcript'. c ≤ stage.callers → slice_get (goes run).transcripts c ≡ Some
                  transcript') _ _ _ (λ inside. ap (λ t. slice_get t by) did.transcripts ∙ get-set_same run.transcripts
                  by (state.shown by) transcript (agrees.shown by caller)) (λ c apart inside.
                  ap (λ t. slice_get t c) did.transcripts ∙ get-set_other _ _ c _ apart ∙ agrees.shown c inside);
              at = put_all (λ x spot'. x < stage.cells → AgreesAt stage.callers (stage.entries x) x (shows' x) spot'
                  (put by transcript state.shown) (slice_get (goes run).histories x) (slice_get (goes run).posted x))
                  _ _ _ (λ inside.
                  let history_at = ap (λ t. slice_get t on) did.histories ∙ get-set_same run.histories
                  on (any_take (end_of spot.events) (stage.entries on)) history at.history_is in
                  let number_at = ap (λ t. slice_get t on) did.numbers
                  ∙ get-set_same run.posted on (sure_in spot.note) (sure_in rest.note) at.number_is in
                  rw (history_at, number_at) (agrees_put _ _ _ _ _ _ _ _ _ _ _ _ _ _ _ _ _ _ at refl refl made.noted
                  made.front_is made.seen less.others made.lasts)) (λ x apart inside.
                  let history_at = ap (λ t. slice_get t x) did.histories ∙ get-set_other _ _ x _ apart in
                  let number_at = ap (λ t. slice_get t x) did.numbers ∙ get-set_other _ _ x _ apart in
                  rw (history_at, number_at) (agrees_elsewhere _ _ x _ _ _ _ _ _ _ _ caller (agrees.at x inside)
                  (λ working. works) (elsewhere x apart) (λ c. less.elsewhere x c apart)));
            };
      }

  -- ---- hearings

  pub goes_heard : (shows' on by → ⊥) → Goes stage shows shows' state (heard_state on by state) (λ run. run)
  goes_heard silent = goes_changed _ (at_front by (heard_pass by spot) spot) _ (λ run. run) (λ x apart. refl) (λ known.
      let is = heard_is _ _ _ caller known in (
        known_moved _ _ _ _ caller known (omega (arith, is.known)) is.sure is.owner is.calls,
        fits_put _ _ _ _ _ (at_front by (heard_pass by spot) spot) _ refl (omega (arith, is.known))
            (subst (All (IsAnyTold (stage.form on) (stage.entries on) (conn by))) is.tests),
      )) (λ known fits run agrees.
      let is = heard_is _ _ _ caller (known on within) in
      let at = agrees.at on within in
      let complete = heard_complete _ _ _ caller (known on within) at.lasts in
      record {
        run_goes = grind (arith, set_same);
        noted = at.noted;
        front_is = is.known ∙ at.front_is;
        seen = grind arith;
        lasts = lasts_put _ _ _ _ complete;
      })

  -- ---- a next call that wasn't made

  module _ (last : spot.last ≡ Some (conn by)) (pass : PassShown) (later : IsLater (spot.passes by) pass)
      (ordered : pass.sure ≤ pass.known) where
    goes_stop : (end : AgentEnd) (goes : Run → Run) → (Known stage state → Fits stage
        (stopped_state on by pass end state) → (run : Run) → Agrees stage shows state run → Makes stage shows' on by
        state pass (at_front by pass spot) (record (state.shown by) { end = end }) run (goes run))
        → Goes stage shows shows' state (stopped_state on by pass end state) goes
    goes_stop end goes makes = goes_changed pass (at_front by pass spot) (record (state.shown by) { end = end })
        goes (λ x apart. refl) (λ known.
        let front : (spot.passes by).known ≡ spot.front = knows_front stage.callers by spot known last in (
          known_moved stage.callers by spot pass caller known (omega (arith, front, later.known)) ordered
              (ap (λ (p : PassShown). p.owner) later.same) (ap (λ (p : PassShown). p.calls) later.same),
          fits_put _ _ _ _ _ (at_front by pass spot) _ refl (omega (arith, front, later.known)) (grind (arith, conn)),
        )) makes

    -- where memory was lacking nothing more is claimed
    pub goes_none : (cause : NoMemory) (goes : Run → Run)
        → Goes stage shows shows' state (stopped_state on by pass (AgentEnd.NoMemory cause) state) goes
    goes_none cause goes = grind (arith, goes_stop, put_same)

    -- the run stops at the full journal
    pub goes_full : IsStage stage → Goes stage shows shows' state
        (stopped_state on by pass (AgentEnd.JournalFull (str on)) state) (stopped_at (conn by) (str on))
    goes_full is = goes_stop (AgentEnd.JournalFull (str on)) (stopped_at (conn by) (str on)) (λ known fits run agrees.
        let at = agrees.at on within in
        let still = still_front stage is on by pass _ state within last later.known known fits
        (stop_point stage on by pass _ state within caller (λ ends. absurd cc) fits) at.front_is in
        record {
          run_goes = rw (transcript_is _ _ _ _ _ caller agrees) (run_shows _ _ _ _ _ _ _ within agrees);
          noted = at.noted;
          front_is = still.0;
          seen = λ working. absurd cc;
          lasts = lasts_put _ _ _ _ (omega (arith, later.sure, still.1, at.lasts (conn by) last, ordered));
        })

-- ---- calls

abbrev pub called_state : ℕ → ℕ → AnyAsk → Told → AnyReply → State → State
called_state on by asked told reply state = acted on by (called by asked told reply (state.spots on))
    (record (state.shown by) { items = (state.shown by).items ++ Shown.Call (str on) told.no ∷ [] }) state

-- what the run by the machine alone makes of the call
abbrev pub run_called : StrForm → (CfId → Telling) → ℕ → ℕ → AnyAsk → AnyHistory → Run → Run
run_called form tells on by asked entries run =
    shown_to (conn by) (Shown.Call (str on) (any_length (any_next form tells entries (conn by) asked)))
    (record run { histories = set run.histories on (any_next form tells entries (conn by) asked) })

module _ (stage : Stage) (is : IsStage stage) (on by : ℕ) (asked : AnyAsk) (told : Told) (reply : AnyReply)
    (state : State) (within : on < stage.cells) where
  pub next_here : Fits stage (called_state on by asked told reply state) → IsNextCall stage.limit (stage.form on)
      (stage.told on) (stage.entries on) by (end_of (state.spots on).events) asked told
  next_here fits = is_next_call stage.limit (stage.form on) (stage.told on) (stage.entries on) stage.callers by
      (state.spots on) asked told reply (is.legal on within) (is.as_told on within) (is.made on within)
      (fits_here stage on by (called by asked told reply (state.spots on)) _ state within fits)

  pub goes_call : (shows shows' : Shows) → by ≤ stage.callers → (state.spots on).last ≡ Some (conn by)
      → ((state.spots on).passes by).known < told.no → (state.shown by).end ≡ AgentEnd.Done → SaysLess
      shows shows' on by → Goes stage shows shows' state (called_state on by asked told reply state) (run_called
      (stage.form on) (stage.told on) on by asked (any_take (end_of (state.spots on).events) (stage.entries on)))
  goes_call shows shows' caller last above works less =
      let spot = state.spots on in
      let item = Shown.Call (str on) told.no in
      let items = (state.shown by).items in
      let number_is = number_shown on told.no item (λ x. refl) in
      goes_changed stage shows shows' on by state within caller works less (with_call asked told reply (spot.passes by))
      (with_event by asked told spot) (record (state.shown by) { items = items ++ item ∷ [] }) _
      (λ x apart. seen_none (str x) items item (number_is.elsewhere x apart)) (λ known.
      let later : spot.front < told.no = omega (arith, knows_front stage.callers by spot known last, above) in (
        known_called stage.callers by spot asked told reply caller known last later,
        fits_called (stage.form on) (stage.entries on) stage.callers by spot asked told reply later,
      )) (λ known fits run agrees.
      let next = next_here fits in
      let at = agrees.at on within in
      let seen_now = seen_push (str on) items item told.no number_is.here in
      let before = at.seen by caller works in
      let ends = fold_push last_number 0 spot.events (event by asked told) in
      record {
        run_goes = record {
          histories = ap (set run.histories on) (sym next.next ∙ ap (λ n. any_take n (stage.entries on)) (sym ends));
          transcripts = rw (transcript_is stage shows by state run caller agrees, sym next.number) refl;
          numbers = sym (set_same run.posted on _ at.number_is);
        };
        noted = at.noted;
        front_is = sym ends;
        seen = grind arith;
        lasts = λ c lasted. lasts_put by _ spot.passes told.no refl c (sym last ∙ lasted);
      })
