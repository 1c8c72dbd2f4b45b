-- The calls of one line: what they keep, and the steps of the run by the machine alone that go with them.
use Rattle.plex_agent.proofs.Imports.{◌≡◌, ◌≢◌, ℕ, zero, suc, ◌≤◌, ◌<◌, List, [], ◌∷◌, ◌++◌, map, slice_get, Option, Some, refl, ap, ◌∙◌, arith, append-nil, append_assoc, nat_tests, StrForm, Kind, CfId, ConnId, Telling, StrNo, Told, Step, AnyAsk, AnyHistory, AgentEnd, Shown, Transcript, step_after, most_asks, asked_by, rests, fewer_asks, some_goes, any_length, any_told, Run, stopped_at, steps_made, AnyReply, PassShown, IsLater, with_call, Steps, call_item, NoMemory}
use Rattle.plex_agent.proofs.Spots.{conn, str, put, put_same, put_other, Spot, moved, called}
use Rattle.plex_agent.proofs.Stages.{Stage, IsStage, State, Shows, Goes, goes_then, goes_not, goes_where}
use Rattle.plex_agent.proofs.ExactMoves.{SaysLess, called_state, run_called, next_here, stopped_state, stop_point, full_here, goes_call, goes_full, says_same, goes_none}

-- ---- how many calls

-- a step that rests asks nothing more
resting : (limit : ℕ) (told : ℕ → CfId → Telling) (most : ℕ) (form : StrForm) (line : Option AnyAsk)
    (by : ConnId) (on : StrNo) (run : Run) → steps_made limit told most form line by on Step.Rest run ≡ run
resting limit told zero form line by on run = refl
resting limit told (suc most) form line by on run = resting limit told most form line by on run

some_left : (kind : Kind) (line : Option AnyAsk) (now : Step) (asked : AnyAsk) (most : ℕ)
    → asked_by kind line now ≡ Some asked → most_asks now ≤ most → (less : ℕ) × (most ≡ suc less)
some_left kind line now asked zero asks enough = absurd (some_goes kind line now asked asks (rests now enough))
some_left kind line now asked (suc less) asks enough = (less, refl)

-- ---- where the calls of a line lead

-- the caller's pass and transcript became these; nothing else changed that is told to others
pub record IsMoved (on by : ℕ) (pass : PassShown) (transcript : Transcript) (before after : State) : Type 0 where
  pub here : (after.spots on).passes by ≡ pass
  pub others : (c : ℕ) → c ≢ by → (after.spots on).passes c ≡ (before.spots on).passes c
  pub note : (after.spots on).note ≡ (before.spots on).note
  pub last : (after.spots on).last ≡ (before.spots on).last
  pub elsewhere : (x : ℕ) → x ≢ on → after.spots x ≡ before.spots x
  pub shown : after.shown by ≡ transcript
  pub others_shown : (c : ℕ) → c ≢ by → after.shown c ≡ before.shown c

-- a caller came to a next call, which wasn't made
pub record IsHalted (kind : Kind) (line : Option AnyAsk) (last : Step) (before after : PassShown) : Type 0 where
  pub asked : AnyAsk
  pub next : asked_by kind line last ≡ Some asked
  pub later : IsLater before after
  pub ordered : after.sure ≤ after.known

abbrev pub IsEnded : ℕ → Kind → Option AnyAsk → ℕ → Step → PassShown → PassShown → AgentEnd → Type 0
IsEnded limit kind line on last before after AgentEnd.Done = (last ≡ Step.Rest) × (after ≡ before)
IsEnded limit kind line on last before after (AgentEnd.JournalFull place) =
    (place ≡ str on) × IsHalted kind line last before after × (limit ≤ after.known)
IsEnded limit kind line on last before after (AgentEnd.NoMemory cause) = IsHalted kind line last before after

module _ (stage : Stage) (is : IsStage stage) (line : Option AnyAsk) (on by : ℕ) (within : on < stage.cells)
    (caller : by ≤ stage.callers) where
  abbrev pub kind_here : Kind
  kind_here = (stage.form on).kind

  abbrev steps_here : ℕ → Step → Run → Run
  steps_here most now = steps_made stage.limit stage.told most (stage.form on) line (conn by) (str on) now

  pub record StepsGo (shows shows' : Shows) (most : ℕ) (now : Step) (pass : PassShown) (transcript : Transcript)
      (before : State) : Type 1 where
    pub after : State
    pub is_moved : IsMoved on by pass transcript before after
    pub goes : Goes stage shows shows' before after
        (steps_made stage.limit stage.told most (stage.form on) line (conn by) (str on) now)

  -- the next call isn't made
  full_made : (less : ℕ) (now : Step) (asked : AnyAsk) (entries : AnyHistory) (run : Run)
      → asked_by kind_here line now ≡ Some asked → slice_get run.histories on ≡ Some entries
      → stage.limit ≤ any_length entries → steps_here (suc less) now run ≡ stopped_at (conn by) (str on) run
  full_made less now asked entries run asks there full = grind (arith, nat_tests, resting, conn, str)

  -- ---- no call more

  module _ (shows shows' : Shows) (most : ℕ) (now : Step) (pass : PassShown) (before : State)
      (less : SaysLess shows shows' on by) (works : (before.shown by).end ≡ AgentEnd.Done)
      (last : (before.spots on).last ≡ Some (conn by)) where
    abbrev EndsHere : AgentEnd → Type 1
    EndsHere end =
        StepsGo shows shows' most now pass (record { items = (before.shown by).items ++ []; end = end }) before

    stop_go : (end : AgentEnd) → Goes stage shows shows' before (stopped_state on by pass end before)
        (steps_here most now) → EndsHere end
    stop_go end goes = grind (arith, stopped_state, Spot, moved, put, put_same, put_other, append-nil)

    full_go : most_asks now ≤ most → IsHalted kind_here line now ((before.spots on).passes by) pass
        → stage.limit ≤ pass.known → EndsHere (AgentEnd.JournalFull (str on))
    full_go enough halted full =
        let left = some_left _ _ _ _ _ halted.next enough in
        stop_go _ (goes_where (λ known here fits run agrees. (let at = agrees.at on within in
        ap (λ m. steps_here m now run) left.1 ∙ full_made left.0 now halted.asked _ run halted.next at.history_is
        (grind (arith, full_here, stop_point)))) (goes_full stage shows shows' on by before
        within caller works less last pass halted.later halted.ordered is))

    none_go : (cause : NoMemory) → IsHalted kind_here line now ((before.spots on).passes by) pass
        → EndsHere (AgentEnd.NoMemory cause)
    none_go cause halted = grind (arith, stop_go, goes_none)

    -- nothing is asked
    rest_go : now ≡ Step.Rest → pass ≡ (before.spots on).passes by
        → Goes stage shows shows' before before (λ run. run) → EndsHere AgentEnd.Done
    rest_go rest same still = grind (arith, append-nil, goes_where, resting, conn, str)

  -- ---- a call, and the steps behind it

  call_moved : (asked : AnyAsk) (told : Told) (reply : AnyReply) (before : State) → IsMoved on by (with_call
      asked told reply ((before.spots on).passes by)) (record (before.shown by) {
        items = (before.shown by).items ++ Shown.Call (str on) told.no ∷ [];
      }) before (called_state on by asked told reply before)
  call_moved asked told reply before = grind (arith, Spot, called, str, put, put_same, put_other)

  pub moved_then : (pass pass' : PassShown) (transcript transcript' : Transcript) (first second third : State)
      → IsMoved on by pass transcript first second → IsMoved on by pass' transcript' second third
      → IsMoved on by pass' transcript' first third
  moved_then pass pass' transcript transcript' first second third one two = grind arith

  call_made_here : (less : ℕ) (now : Step) (asked : AnyAsk) (told : Told) (entries : AnyHistory) (run : Run)
      → asked_by kind_here line now ≡ Some asked → slice_get run.histories on ≡ Some entries
      → any_length entries < stage.limit
      → told ≡ any_told (stage.form on) (stage.told on) entries (conn by) asked → steps_here (suc less) now
      run ≡ steps_here less (step_after now told) (run_called (stage.form on) (stage.told on) on by asked entries run)
  call_made_here less now asked told entries run asks there room answer = grind (arith, nat_tests)

  -- all steps of a line; where the first isn't at rest, the caller was shown at least one number, or its work ended
  pub steps_go : (shows shows' : Shows) (tolds : List Told) (most : ℕ) (now last : Step) (pass pass' : PassShown)
      (end : AgentEnd) (before : State) → SaysLess shows shows' on by → (now ≡ Step.Rest → Goes stage shows shows'
      before before (λ run. run)) → (before.shown by).end ≡ AgentEnd.Done → (before.spots on).last ≡ Some (conn by)
      → most_asks now ≤ most → Steps kind_here line now ((before.spots on).passes by) tolds last pass
      → IsEnded stage.limit kind_here line on last pass pass' end → StepsGo shows shows' most
      now pass' (record { items = (before.shown by).items ++ map (call_item (str on)) tolds; end = end }) before
  steps_go shows shows' [] most now last pass pass' AgentEnd.Done before says still works lasts enough steps ends =
      grind (arith, rest_go)
  steps_go shows shows' [] most
      now last pass pass' (AgentEnd.JournalFull place) before says still works lasts enough steps
      ends = grind (arith, full_go)
  steps_go shows shows' [] most now last pass pass' (AgentEnd.NoMemory cause) before says still works lasts enough steps
      ends =
      grind (arith, none_go)
  steps_go shows shows' (told ∷ tolds) most now last pass pass' end before says still works lasts enough
      (asked, asks, above, reply, steps) ends =
      let between = called_state on by asked told reply before in
      let call = call_moved asked told reply before in
      let left = some_left kind_here line now asked most asks enough in
      let fewer = fewer_asks now told (some_goes kind_here line now asked asks) in
      let one = goes_call stage is on by asked told reply before within shows shows' caller lasts above works says in
      let then = steps_go shows' shows' tolds left.0 (step_after now told) last pass pass' end between
      (says_same shows' on by) (λ rest. goes_not) (ap (λ t. t.end) call.shown ∙ works) (call.last ∙ lasts)
      (omega (arith, left.1)) (grind arith) ends in
      record {
        after = then.after;
        is_moved = grind (arith, str, append_assoc, moved_then);
        goes = goes_where (λ known here fits run agrees.
            let next =
            next_here stage is on by asked told reply before within (then.goes.back (one.known known) fits) in
            ap (λ m. steps_here m now run) left.1 ∙ call_made_here left.0 now asked told _ run asks (agrees.at
            on within).history_is (omega (arith, next.size, next.room)) next.answer) (goes_then one then.goes);
      }
