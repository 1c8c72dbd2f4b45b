-- A member that asks for events: what it asked for adds up.
use Rattle.plex_seat.proofs.Imports.{◌≡◌, ℕ, ◌+◌, ◌<◌, ◌≤◌, ◌++◌, List, [], ◌∷◌, length, zero, suc, append_assoc, append-nil, with_pass-pass_at, rules, refl, sym, ap, subst, ◌∙◌, arith, slice_index_or, slice_set, option_map_or, length-append, set-set, All-push, StrNo, AnyAsk, AnyCall, StrType, OfCache, PassShown, with_call, CellShown, DeskShown, IsLaterOn, no_pass, pass_at, with_pass, BoardShown, cell_on, Unanswered, OtherKind, NotMade, Unread, SeatShown, IsSame, pass_of, type_at, common_ask, HasCalled, HasFault, HasAskedForEvents, ShellCmd}
use Rattle.plex_seat.proofs.DeskLaws.{later_same}

-- ---- a desk whose pass is replaced more than once

again : (on : StrNo) (one two : PassShown) (desk : DeskShown)
    → with_pass on two (with_pass on one desk) ≡ with_pass on two desk
again on one two desk = ap (λ (passes : List PassShown). let d : DeskShown = record desk { passes = passes } in d)
    (set-set desk.passes on.0 one two)

rest_after : (on : StrNo) (first second third : DeskShown) (one two three : PassShown) → second ≡ with_pass
    on one first → third ≡ with_pass on three (with_pass on two second) → third ≡ with_pass on three first
rest_after on first second third one two three was is =
    is ∙ again on two three second ∙ ap (with_pass on three) was ∙ again on one three first

-- where a pass that knows more is put, no less is known
known_set : (passes : List PassShown) (i : ℕ) (pass : PassShown) → (slice_index_or passes i no_pass).known ≤
    pass.known → (slice_index_or passes i no_pass).known ≤ (slice_index_or (slice_set passes i pass) i no_pass).known
known_set [] i pass more = omega arith
known_set (first ∷ passes) zero pass more = more
known_set (first ∷ passes) (suc i) pass more = known_set passes i pass more

-- ---- what was asked for

module _ {L : Type 0} where
  -- nothing yet
  pub asked_none : (seat : SeatShown L) → HasAskedForEvents 0 seat seat
  asked_none seat = record {
    more = [];
    count = omega arith;
    calls = sym (append-nil (pass_of seat).calls);
    next = search rules;
    tests = refl;
    rest = sym (with_pass-pass_at seat.desk seat.on);
  }

  -- fewer are at most as many
  pub asked_within : (few limit : ℕ) (before after : SeatShown L) → few ≤ limit → HasAskedForEvents few before after
      → HasAskedForEvents limit before after
  asked_within few limit before after within asked = record {
    more = asked.more;
    count = omega (arith, asked.count, within);
    calls = asked.calls;
    next = asked.next;
    tests = asked.tests;
    rest = asked.rest;
  }

  abbrev type_in : BoardShown L → StrNo → StrType
  type_in board on = option_map_or (λ (cell : CellShown L). cell.str_type) (cell_on board on) OfCache

  module _ (most : ℕ) (before between after : SeatShown L) (same : IsSame before between) (here : IsSame between after)
      (asked : HasAskedForEvents most before between) where
    type_same : type_at between ≡ type_at before
    type_same = ap (λ (board : BoardShown L). type_in board between.on) same.board
        ∙ ap (λ (on : StrNo). type_in before.board on) same.on

    -- the pass that the member has now, where it sits
    pass_same : pass_at after.desk before.on ≡ pass_of after
    pass_same = ap (λ (on : StrNo). pass_at after.desk on) (sym (here.on ∙ same.on))

    rest_with : (last : PassShown) → last ≡ pass_of after → after.desk ≡ with_pass before.on last before.desk
        → after.desk ≡ with_pass before.on (pass_of after) before.desk
    rest_with last is rest = rest ∙ ap (λ (pass : PassShown). with_pass before.on pass before.desk) is

    -- a call more
    pub asked_more : (number : ℕ) → HasCalled (common_ask (type_at between) ShellCmd.Next) number between after
        → HasAskedForEvents (most + 1) before after
    asked_more number called =
        let asks : AnyAsk = common_ask (type_at between) ShellCmd.Next in
        let call : AnyCall =
        record { no = called.told.no; by = (pass_of between).owner; ask = asks; told = called.told } in
        let new : PassShown = with_call asks called.told called.kept (pass_of between) in
        let told : after.desk ≡ with_pass before.on (pass_at after.desk before.on)
        (with_pass before.on new between.desk) = subst (λ (on : StrNo). after.desk ≡ with_pass
        on (pass_at after.desk on) (with_pass on new between.desk)) same.on called.desk.rest in
        record {
          more = asked.more ++ call ∷ [];
          count = omega (arith, asked.count, length-append asked.more (call ∷ []));
          calls = called.calls ∙ ap (λ (calls : List AnyCall). calls ++ call ∷ []) asked.calls
              ∙ append_assoc (pass_of before).calls asked.more (call ∷ []);
          next = All-push (λ (call : AnyCall). call.ask ≡ common_ask (type_at before) ShellCmd.Next) asked.more call
              asked.next (ap (λ (type_is : StrType). common_ask type_is ShellCmd.Next) type_same);
          tests = called.tests ∙ asked.tests;
          rest = rest_with (pass_at after.desk before.on) pass_same (rest_after before.on before.desk
              between.desk after.desk (pass_of between) new (pass_at after.desk before.on) asked.rest told);
        }

    -- no call more, though more was seen
    pub asked_later : (limit : ℕ) → most ≤ limit → IsLaterOn between.on between.desk after.desk
        → HasAskedForEvents limit before after
    asked_later limit within later =
        let told : IsLaterOn before.on between.desk after.desk =
        subst (λ (on : StrNo). IsLaterOn on between.desk after.desk) same.on later in
        let now : pass_of after ≡ pass_at after.desk before.on = sym pass_same in
        let last : PassShown = pass_at after.desk before.on in
        let was : pass_at between.desk before.on ≡ pass_of between =
        ap (λ (on : StrNo). pass_at between.desk on) (sym same.on) in
        record {
          more = asked.more;
          count = omega (arith, asked.count, within);
          calls = ap (λ (pass : PassShown). pass.calls) now ∙ ap (λ (pass : PassShown). pass.calls) told.later.same
              ∙ ap (λ (pass : PassShown). pass.calls) was ∙ asked.calls;
          next = asked.next;
          tests = ap (λ (pass : PassShown). pass.tests) now ∙ ap (λ (pass : PassShown). pass.tests) told.later.same
              ∙ ap (λ (pass : PassShown). pass.tests) was ∙ asked.tests;
          rest = rest_with last pass_same (told.rest ∙ ap (with_pass before.on last) asked.rest
              ∙ again before.on (pass_of between) last before.desk);
        }

    -- the last call wasn't answered
    pub asked_fault : (limit : ℕ) (why : Unanswered) → most < limit
        → HasFault (common_ask (type_at between) ShellCmd.Next) why between after → HasAskedForEvents limit before after
    asked_fault limit OtherKind within fault = asked_later limit
        (omega (arith, within)) (subst (λ (seat : SeatShown L). IsLaterOn between.on between.desk seat.desk)
        (sym fault.0) (later_same between.on between.desk))
    asked_fault limit (NotMade refusal) within fault = asked_later limit (omega (arith, within)) fault.later
    asked_fault limit (Unread number) within fault =
        asked_within (most + 1) limit before after (omega (arith, within)) (asked_more number fault)

  -- who was answered knows no less
  pub known_more : (asks : AnyAsk) (number : ℕ) (before after : SeatShown L) → IsSame before after
      → HasCalled asks number before after → (pass_of before).known ≤ (pass_of after).known
  known_more asks number before after same called =
      let new : PassShown = with_call asks called.told called.kept (pass_of before) in
      let risen : (pass_of before).known ≤ new.known = omega (arith, called.newer, called.number_is) in
      let put : (pass_of before).known ≤ (pass_at (with_pass before.on new before.desk) before.on).known =
      known_set before.desk.passes before.on.0 new risen in
      let now : (pass_at after.desk before.on).known ≡ (pass_of after).known =
      ap (λ (on : StrNo). (pass_at after.desk on).known) (sym same.on) in
      omega (arith, put, called.desk.later.known, now)

  -- a call more is one more
  pub calls_more : (asks : AnyAsk) (number : ℕ) (before after : SeatShown L) → HasCalled asks number before after
      → length (pass_of after).calls ≡ length (pass_of before).calls + 1
  calls_more asks number before after called =
      let call : AnyCall =
      record { no = called.told.no; by = (pass_of before).owner; ask = asks; told = called.told } in
      omega (arith, ap length called.calls, length-append (pass_of before).calls (call ∷ []))

  pub same_same : (before between after : SeatShown L) → IsSame before between → IsSame between after
      → IsSame before after
  same_same before between after one two = record {
    board = two.board ∙ one.board;
    on = two.on ∙ one.on;
    owner = two.owner ∙ one.owner;
  }
