-- A caller's turn at a structure: what it does to desk and transcript, and what its items show by the histories.
use Rattle.plex_agent.proofs.Imports.{◌≡◌, ℕ, ◌≤◌, ◌<◌, List, [], ◌∷◌, ◌++◌, length, map, Some, Option, refl, sym, ap, subst, ◌∙◌, arith, append-nil, append_assoc, Kind, ConnId, StrNo, Told, Step, AnyAsk, AgentEnd, Shown, step_after, asked_by, AnyCall, call_numbered, calls_on, length_on, IsHeard, Runs, RunsUpTo, AnyReply, PassShown, with_call, Rising, DeskShown, pass_at, with_pass, AtWork, call_item, Steps, Halts, EndsAt, Asks, IsLaterOn, pass_at-with_pass_same}
use Rattle.plex_agent.proofs.Passes.{Caller, IsWithin, Advances, advances_none, advances_then, advances_one, advances_later}
use Rattle.plex_agent.proofs.{AskLaws.with_pass_twice, Fronts.own_heard, Adds.call_adds, Moves.Moves, Moves.moves_by}

module _ (me : Caller) where
  -- ---- steps

  steps_advance : (kind : Kind) (line : Option AnyAsk) (on : StrNo)
      (now : Step) (pass : PassShown) (tolds : List Told) (last : Step) (pass' : PassShown)
      → Steps kind line now pass tolds last pass' → Advances me on pass pass' (map (call_item on) tolds)
  steps_advance kind line on now pass [] last pass' steps =
      subst (λ p. Advances me on pass p []) (sym steps.1) (advances_none me on pass)
  steps_advance kind line on now pass (told ∷ tolds) last pass' (asked, next, above, reply, rest) =
      advances_then _ _ _ _ _ _ _ (advances_one _ _ _ _ _ (call_adds _ _ _ _ _ _ above))
      (steps_advance kind line on (step_after now told) (with_call asked told reply pass) tolds last pass' rest)

  -- a call of a pass that is in the histories is heard there
  call_heard : (on : StrNo) (by : ConnId) (asked : AnyAsk) (told : Told) (reply : AnyReply) (pass : PassShown)
      → Rising 0 (calls_on me.histories on)
      → pass.owner ≡ by → IsWithin me on (with_call asked told reply pass) → call_numbered
      told.no (calls_on me.histories on) ≡ Some (record { no = told.no; by = by; ask = asked; told = told })
  call_heard on by asked told reply pass rise owner within =
      let call : AnyCall = record { no = told.no; by = pass.owner; ask = asked; told = told } in
      let found : call_numbered told.no (calls_on me.histories on) ≡ Some call =
      own_heard 0 _ _ _ _ _ rise (within.calls.behind ∙ append_assoc pass.calls (call ∷ []) within.calls.more) in
      let by_other : ConnId → Option AnyCall =
      λ (b : ConnId). Some (record { no = told.no; by = b; ask = asked; told = told }) in
      found ∙ ap by_other owner

  module _ (kind : Kind) (line : Option AnyAsk) (on : StrNo) (by : ConnId)
      (rise : Rising 0 (calls_on me.histories on)) where
    abbrev AreHeard : Step → Told → Type 0
    AreHeard now told = IsHeard (calls_on me.histories on) by (asked_by kind line now) told.no told

    step_heard : (now : Step) (asked : AnyAsk) (told : Told) (reply : AnyReply) (pass : PassShown) → asked_by kind
        line now ≡ Some asked → pass.owner ≡ by → IsWithin me on (with_call asked told reply pass) → AreHeard now told
    step_heard now asked told reply pass next owner within = subst (λ o. IsHeard (calls_on me.histories on)
        by o told.no told) (sym next) (call_heard on by asked told reply pass rise owner within)

    -- what steps show, by what holds behind the last of them
    steps_show : (Shows : Step → List Shown → Type 0) → ((now : Step) (told : Told) (items : List Shown) → AreHeard
        now told → Shows (step_after now told) items → Shows now (call_item on told ∷ items)) → (now : Step)
        (pass : PassShown) (tolds : List Told) (last : Step) (pass' : PassShown) → Steps kind line now pass tolds
        last pass' → pass.owner ≡ by → IsWithin me on pass' → Shows last [] → Shows now (map (call_item on) tolds)
    steps_show Shows more now pass [] last pass' steps owner within ends = subst (λ at. Shows at []) steps.0 ends
    steps_show Shows more now pass (told ∷ tolds) last pass' (asked, next, above, reply, rest) owner within ends =
        more now told (map (call_item on) tolds) (step_heard now asked told reply pass next owner ((steps_advance kind
        line on (step_after now told) (with_call asked told reply pass) tolds last pass' rest).back within))
        (steps_show Shows more (step_after now told) (with_call asked told reply pass) tolds last pass' rest owner
        within ends)

  -- ---- turns

  -- how a turn ends: all of it was shown, or what comes before a call to a full journal, or before memory was lacking
  abbrev pub EndsAs : ℕ → StrNo → (List Shown → Type 0) → (List Shown → Type 0) → (List Shown → Type 0) → List Shown
      → AgentEnd → Type 0
  EndsAs limit on Whole UpTo Cut part AgentEnd.Done = Whole part
  EndsAs limit on Whole UpTo Cut part (AgentEnd.JournalFull place) =
      (place ≡ on) × UpTo part × (limit ≤ length_on me.histories on)
  EndsAs limit on Whole UpTo Cut part (AgentEnd.NoMemory cause) = Cut part

  pub record Turned (limit : ℕ) (by : ConnId) (on : StrNo) (Whole UpTo Cut : List Shown → Type 0)
      (before after : AtWork) : Type 0 where
    pub part : List Shown
    pub moves : Moves me on before after part
    pub shows : (pass_at before.desk on).owner ≡ by → IsWithin me on (pass_at after.desk on)
        → EndsAs limit on Whole UpTo Cut part after.shown.end

  -- ---- calls

  module _ (limit : ℕ) (kind : Kind) (line : Option AnyAsk) (on : StrNo) (by : ConnId) (first : Step)
      (before : AtWork) (rise : Rising 0 (calls_on me.histories on)) (inside : on.0 < length before.desk.passes) where
    abbrev pub RunsAll : List Shown → Type 0
    RunsAll part = Runs kind line (calls_on me.histories on) by on first part

    abbrev pub RunsPart : List Shown → Type 0
    RunsPart part = RunsUpTo kind line (calls_on me.histories on) by on first part

    abbrev was : PassShown
    was = pass_at before.desk on

    abbrev at_work : DeskShown → List Shown → AgentEnd → AtWork
    at_work desk items end = record { desk = desk; shown = record { items = items; end = end } }

    module _ (tolds : List Told) (last : Step) (pass : PassShown)
        (steps : Steps kind line first (pass_at before.desk on) tolds last pass)
        (desk : DeskShown) (items : List Shown) (shows : items ≡ before.shown.items ++ map (call_item on) tolds) where
      later : IsLaterOn on (with_pass on pass before.desk) desk → Advances me on pass (pass_at desk on) []
      later stop = subst (λ p. Advances me on p (pass_at desk on) [])
          (pass_at-with_pass_same before.desk on pass inside) (advances_later _ _ _ _ stop.later)

      halts : (end : AgentEnd) → Halts kind line on last (with_pass on pass before.desk) desk → Moves
          me on before (at_work desk items end) (map (call_item on) tolds) × ((pass_at before.desk on).owner ≡ by
          → IsWithin me on (pass_at desk on) → RunsPart (map (call_item on) tolds))
      halts end stop = (
        moves_by me on before (at_work desk items end) (pass_at desk on) (map (call_item on) tolds)
            inside (stop.later.rest ∙ with_pass_twice on pass (pass_at desk on) before.desk)
            shows (subst (Advances me on was _) (append-nil (map (call_item on) tolds)) (advances_then
            _ _ _ _ _ _ _ (steps_advance kind line on first was tolds last pass steps) (later stop.later))),
        λ owner within. steps_show kind line on by rise (RunsUpTo kind line (calls_on me.histories on) by on)
            (λ now told items heard rest. (told, refl, heard, rest)) first was tolds last pass steps owner
            ((later stop.later).back within) (stop.asked, stop.next),
      )

      ends : (end : AgentEnd) → EndsAt limit kind line on last (with_pass on pass before.desk) desk end
          → Turned limit by on RunsAll RunsPart RunsPart before (at_work desk items end)
      ends AgentEnd.Done (rests, same) = record {
        part = map (call_item on) tolds;
        moves = moves_by me on before (at_work desk items AgentEnd.Done) pass (map (call_item on) tolds)
            inside same shows (steps_advance kind line on first was tolds last pass steps);
        shows = λ owner within. steps_show kind line on by rise (Runs kind line (calls_on me.histories on) by on)
            (λ now told items heard rest. (told, refl, heard, rest)) first was tolds last pass
            steps owner (subst (IsWithin me on) (ap (λ d. pass_at d on) same
            ∙ pass_at-with_pass_same before.desk on pass inside) within) rests;
      }
      ends (AgentEnd.JournalFull place) (here, stop, full) =
          let both = halts (AgentEnd.JournalFull place) stop in
          record {
            part = map (call_item on) tolds;
            moves = both.0;
            shows = λ owner within. (here, both.1 owner within, omega (arith, full, within.known));
          }
      ends (AgentEnd.NoMemory cause) (stop, same) =
          let both = halts (AgentEnd.NoMemory cause) stop in
          record { part = map (call_item on) tolds; moves = both.0; shows = λ owner within. both.1 owner within }

    pub asks_turned : (after : AtWork) → Asks limit kind line on first before after
        → Turned limit by on RunsAll RunsPart RunsPart before after
    asks_turned after asks = ends
        asks.tolds asks.last asks.pass asks.steps after.desk after.shown.items asks.items after.shown.end asks.ends
