-- The calls of a line, put together from its steps.
use Rattle.plex_agent.proofs.Imports.{◌≡◌, ◌≢◌, ℕ, ◌<◌, ◌≤◌, List, [], ◌∷◌, ◌++◌, length, map, Option, refl, ap, subst, ◌∙◌, append-nil, append_assoc, arith, IfSome, set-set, Kind, StrNo, CallRefused, Step, AnyAsk, AgentEnd, Shown, most_asks, IsReady, PassShown, DeskShown, pass_at, with_pass, IsLaterOn, BoardShown, IsDeskOf, cell_on, pass_at-with_pass_same, with_pass-pass_at, desk-length, AtWork, Asks, EndsAt, Halts, call_item, IsAsked, at_work, asks_some, fewer_asks, ready_after, want}
use Rattle.plex_agent.specs.Calls.{end_of}
use Rattle.plex_agent.proofs.CellLaws.{some_is, cell_there}

pub with_pass_twice : (on : StrNo) (first second : PassShown) (desk : DeskShown)
    → with_pass on second (with_pass on first desk) ≡ with_pass on second desk
with_pass_twice on first second desk = grind (arith, set-set)

module _ (limit : ℕ) (kind : Kind) (line : Option AnyAsk) (on : StrNo) where
  -- a step, and the steps behind it
  pub asks_more : (now next : Step) (before between after : AtWork) → on.0 < length before.desk.passes
      → IsAsked kind line on now next before between → Asks limit kind line on next between after
      → Asks limit kind line on now before after
  asks_more now next before between after there one rest =
      let told = one.told in
      let passes = ap (λ d. pass_at d on) one.desk ∙ pass_at-with_pass_same before.desk on _ there in
      let twice = ap (with_pass on rest.pass) one.desk ∙ with_pass_twice on _ rest.pass before.desk in
      record {
        tolds = told ∷ rest.tolds;
        last = rest.last;
        pass = rest.pass;
        steps = grind arith;
        items = rest.items ∙ ap (λ items. items ++ map (call_item on) rest.tolds) one.items
            ∙ append_assoc before.shown.items (call_item on told ∷ []) (map (call_item on) rest.tolds);
        ends = subst (λ d. EndsAt limit kind line on rest.last d after.desk after.shown.end) twice rest.ends;
      }

  -- no step was made
  pub asks_end : (now : Step) (before after : AtWork) → EndsAt limit kind line on now before.desk
      after.desk after.shown.end → after.shown.items ≡ before.shown.items → Asks limit kind line on now before after
  asks_end now before after ends same = grind (arith, append-nil, with_pass-pass_at)

  -- the call wasn't made
  pub asks_refused : (now : Step) (refusal : CallRefused) (end : AgentEnd) (before : AtWork)
      (after : DeskShown) (items : List Shown) → IsReady line now → now ≢ Step.Rest → IsLaterOn on before.desk after
      → (pass_at after on).sure ≤ (pass_at after on).known → (refusal ≢ CallRefused.NoMemory want → limit
      ≤ (pass_at after on).known) → (refusal ≡ CallRefused.NoMemory want → after ≡ before.desk)
      → items ≡ before.shown.items → end ≡ end_of on refusal → Asks limit kind line on now before (at_work after items end)
  asks_refused now refusal end before after items ready goes later ordered full still same ends =
      grind (arith, by_refusal)
    where
      halts : Halts kind line on now before.desk after
      halts =
          let some = asks_some _ _ _ ready goes in
          record { asked = some.0; next = some.1; later = later; ordered = ordered }

      by_refusal : (refusal : CallRefused) → (refusal ≢ CallRefused.NoMemory want → limit ≤ (pass_at after on).known)
          → (refusal ≡ CallRefused.NoMemory want → after ≡ before.desk)
          → Asks limit kind line on now before (at_work after items (end_of on refusal))
      by_refusal (CallRefused.JournalFull most) full still = asks_end _ _ _ (refl, halts, full (λ is. cc)) same
      by_refusal (CallRefused.NoMemory cause) full still = asks_end _ _ _ (halts, still refl) same

-- ---- a step of a line at a board's structure

module _ {L : Type 0} (board : BoardShown L) (on : StrNo) where
  pub pass_there : (desk : DeskShown) → IsDeskOf board desk → on.0 < length board.cells → on.0 < length desk.passes
  pass_there desk of below = omega (arith, desk-length board desk of, below)

  module _ (line : Option AnyAsk) (now next : Step) (before after : AtWork) (there : on.0 < length board.cells)
      (asked : IfSome (cell_on board on) (λ cell. IsAsked cell.form.kind line on now next before after)) where
    asked_here : IsAsked (cell_there board on there).0.form.kind line on now next before after
    asked_here = grind (arith, cell_there, some_is)

    pub asked_fewer : now ≢ Step.Rest → most_asks next < most_asks now
    asked_fewer goes = grind (arith, asked_here, fewer_asks)

    pub asked_ready : IsReady line now → IsReady line next
    asked_ready ready = grind (arith, asked_here, ready_after)

    pub asked_owner : after.desk.owner ≡ before.desk.owner
    asked_owner = ap (λ d. d.owner) (asked_here).desk
