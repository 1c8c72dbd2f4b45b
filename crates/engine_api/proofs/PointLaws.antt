-- Legality by turns, and point by point.
use Rattle.engine_api.proofs.Imports.{◌≡◌, ℕ, ◌+◌, ◌≤◌, ◌==◌, ◌⊎◌, inl, inr, Bool, true, false, ◌||◌, List, [], ◌∷◌, ◌++◌, length, take, slice_get, Some, refl, sym, ap, subst, ◌∙◌, arith, take_at, append_assoc, append-nil, filter, fold_push, CfId, What, Entry, links_asked, asks_of, Asks, AreDistinct, has, reached, marks_of, StrForm, ConnId, Reply, Meaning, Machine, room_of, call_cause, Turn, replay, next_mark, next_entry, with_marks, after_turn, IsLegal, IsNextAs, Reading, read_all, AreSome, AreMarksOf, MayEnd, IsReplied, IsByPoints}
use Rattle.engine_api.proofs.Pushed.{Each, each_none, each_push}
use Rattle.engine_api.proofs.AskLaws.{Agree, agree_tail, itself, or_true, same_cf}
use Rattle.engine_api.proofs.HistoryLaws.{by_turns, by_marks, each_next, number_legal, legal_none, legal_turn}
use Rattle.engine_api.proofs.AnswerLaws.{legal_group, read-marked, asked_distinct}

-- ---- marks

some_none : (xs : List CfId) → AreSome [] xs
some_none [] = refl
some_none (x ∷ xs) = inl (some_none xs)

some_down : (stops : Bool) (d : CfId → Bool) (xs : List CfId) → AreSome (filter d (reached stops d xs)) xs
some_down stops d [] = refl
some_down stops d (x ∷ xs) = grind (arith, some_none, some_down stops d xs)

one_down : (d : CfId → Bool) (xs : List CfId) → length (filter d (reached true d xs)) ≤ 1
one_down d [] = omega arith
one_down d (x ∷ xs) = grind (arith, one_down d xs)

some_has : (ms xs : List CfId) (cf : CfId) → AreSome ms xs → has xs cf ≡ false → has ms cf ≡ false
some_has ms [] cf some none = rw some refl
some_has ms (x ∷ xs) cf some none = go (x.0 == cf.0) refl none some (λ (ys : List CfId). some_has ys xs cf)
  where
    go : (b : Bool) → x.0 == cf.0 ≡ b → b || has xs cf ≡ false
        → AreSome ms xs ⊎ ((rest : List CfId) × (ms ≡ x ∷ rest) × AreSome rest xs)
        → ((ys : List CfId) → AreSome ys xs → has xs cf ≡ false → has ys cf ≡ false) → has ms cf ≡ false
    go true same none some next = absurd cc
    go false same none (inl some) next = next ms some none
    go false same none (inr some) next = rw (some.1, same) (next some.0 some.2 none)

-- the marks that a call may have are those of links that answer as they say
marks_back : (stops : Bool) (d : CfId → Bool) (ms xs : List CfId) → AreDistinct xs → AreSome ms xs
    → (stops ≡ true → length ms ≤ 1) → Agree xs d (has ms) → filter d (reached stops d xs) ≡ ms
marks_back stops d ms [] distinct some one agree = sym some
marks_back stops d ms (x ∷ xs) distinct some one agree = elim some [
  | inl others ↦
      let none : d x ≡ false = agree x (rw (itself x) refl) ∙ some_has ms xs x others distinct.0 in
      let next : filter d (reached stops d xs) ≡ ms =
      marks_back stops d ms xs distinct.1 others one (agree_tail x xs d (has ms) agree) in
      passed stops none next
  | inr here ↦
      let down : d x ≡ true = agree x (rw (itself x) refl) ∙ rw (here.1, itself x) refl in
      taken stops one here.0 here.1 down (λ (more : Agree xs d (has here.0)).
      marks_back false d here.0 xs distinct.1 here.2 (λ h. absurd (let e : false ≡ true = h in cc)) more)
]
  where
    passed : (t : Bool) → d x ≡ false → filter d (reached t d xs) ≡ ms → filter d (reached t d (x ∷ xs)) ≡ ms
    passed true none next = rw none next
    passed false none next = rw none next

    short : (rest : List CfId) → ms ≡ x ∷ rest → length ms ≤ 1 → rest ≡ []
    short [] e le = refl
    short (y ∷ rest) e le = grind arith

    apart : (rest : List CfId) → ms ≡ x ∷ rest → Agree xs d (has rest)
    apart rest e cf h = grind (arith, or_true, same_cf)

    taken : (t : Bool) → (t ≡ true → length ms ≤ 1) → (rest : List CfId) → ms ≡ x ∷ rest → d x ≡ true
        → (Agree xs d (has rest) → filter d (reached false d xs) ≡ rest) → filter d (reached t d (x ∷ xs)) ≡ ms
    taken true one rest e down next = rw (down, e, short rest e (one refl)) refl
    taken false one rest e down next = rw (down, next (apart rest e)) (sym e)

-- ---- from turns to points

get_seam : {X : Type 0} (front : List X) (x : X) (back : List X) → slice_get (front ++ x ∷ back) (length front) ≡ Some x
get_seam [] x back = refl
get_seam (y ∷ front) x back = get_seam front x back

module _ {C R I S : Type 0} (meaning : Meaning C R I S) (form : StrForm) where
  replied : (history : List (Entry C R)) (entry : Entry C R) (told : What C) → IsNextAs meaning
      form history entry told → IsReplied meaning form (replay meaning form history) entry.by entry.reply told
  replied history entry told e = grind arith

  abbrev EndsWell : List (Entry C R) → Entry C R → Type 0
  EndsWell before entry = MayEnd meaning form (read_all meaning form before) entry.by entry.what

  pub points_from_legal : (history : List (Entry C R)) → IsLegal meaning form history → IsByPoints meaning form history
  points_from_legal history legal = record {
    numbered = number_legal meaning form history legal;
    groups = by_turns meaning form (Each EndsWell) (each_none EndsWell) (λ h turn fine each.
        let asks : Asks = links_asked meaning form (replay meaning form h) turn.by turn.ask in
        let marks : List CfId = marks_of turn.down asks in
        let marked : List (Entry C R) = with_marks meaning form h marks in
        each_push EndsWell marked (next_entry meaning form marked turn.by turn.ask) (by_marks meaning form
        (Each EndsWell) (λ some cf all. each_push EndsWell some (next_mark meaning form some cf) all tt) marks h each)
        (grind (arith, read-marked, legal_group, some_down, one_down))) history legal;
    ended = ap (λ (reading : Reading (Machine S)). reading.marks) (legal_group meaning form history legal);
    replies = λ i entry e. replied (take i history) entry entry.what (each_next meaning form history legal i entry e);
  }

  -- ---- and back

  -- marks behind a legal history
  record IsSoFar (history : List (Entry C R)) : Type 0 where
    began : List (Entry C R)
    marks : List CfId
    legal : IsLegal meaning form began
    is : history ≡ with_marks meaning form began marks

  one_more : (history : List (Entry C R)) (number' : ℕ) (by : ConnId) (reply : Reply R) (told : What C)
      → IsSoFar history → number' ≡ length history + 1 → MayEnd meaning form (read_all meaning form history) by told
      → IsReplied meaning form (replay meaning form history) by reply told
      → IsSoFar (history ++ record { no = number'; by = by; what = told; reply = reply } ∷ [])
  one_more history number' by reply (What.Lost cf) far number ends replies = record {
    began = far.began;
    marks = far.marks ++ cf ∷ [];
    legal = far.legal;
    is = grind (arith, fold_push);
  }
  one_more history number' by reply (What.Call asked) far number ends replies =
      let asks : Asks = links_asked meaning form (replay meaning form far.began) by asked in
      let marks : List CfId = far.marks in
      let fits : AreMarksOf asks marks = grind (arith, read-marked, legal_group) in
      let state : Machine S = replay meaning form far.began in
      let same : marks_of (has marks) asks ≡ marks = marks_back asks.stops (has marks) marks
      asks.links (asked_distinct meaning form (call_cause form (room_of meaning form state) state.shell by asked)
      (asks_of state.shell asked)) fits.some fits.one (λ cf h. refl) in
      let turn : Turn C = record { by = by; ask = asked; down = has marks } in
      record {
        began = after_turn meaning form far.began turn;
        marks = [];
        legal = legal_turn meaning form far.began turn far.legal;
        is = grind arith;
      }

  so_far : (history front back : List (Entry C R)) → IsByPoints meaning form history → history ≡ front ++ back
      → IsSoFar front → IsSoFar history
  so_far history front [] points e far = rw (e, append-nil front) far
  so_far history front (entry ∷ back) points e far =
      let at : slice_get history (length front) ≡ Some entry = rw e (get_seam front entry back) in
      let before : take (length front) history ≡ front = rw e (take_at front (entry ∷ back) (length front) refl) in
      so_far history (front ++ entry ∷ []) back points (e ∙ sym (append_assoc front (entry ∷ []) back))
      (grind (arith, one_more))

  -- the two are the same
  pub legal_from_points : (history : List (Entry C R)) → IsByPoints meaning form history → IsLegal meaning form history
  legal_from_points history points =
      let far : IsSoFar history = so_far history [] history
      points refl (record { began = []; marks = []; legal = legal_none meaning form; is = refl }) in
      let none : far.marks ≡ [] = sym (grind (arith, read-marked, legal_group)) ∙ points.ended in
      subst (IsLegal meaning form) (sym (far.is ∙ ap (with_marks meaning form far.began) none)) far.legal
