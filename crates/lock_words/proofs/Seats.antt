-- A seat is split, and a seat takes in another.
use Rattle.lock_words.proofs.Imports.{◌≡◌, ◌≢◌, ◌+◌, ◌<◌, ◌⊎◌, ℕ, zero, suc, Bool, true, false, List, [], ◌∷◌, ◌++◌, length, set, get_or, Contains, refl, sym, ◌∙◌, inl, inr, ⊎_elim, arith, true≢false, length-append, length-set, sum_by_push, All-weaker, All-nil, All-cons, All-append, Contains-append_left, Contains-append_right, some, some-injective, some-ne-none, dite, ℕ_discrete, get_elem?, Me, Allows, Splits, Joins, at_set, set_here, set_else, at_longer, Hold, Reading, Grant, View, Size, tally, grant, spent_view, without_right, next_view, joined, total, IsSpent, IsOwn, IsAnswered, IsLive, AllFit, Kept}
use Rattle.lock_words.proofs.Tallies.{tally-append, sum-set, value-same, value-sum}
use Rattle.lock_words.proofs.Steps.{within, same-at, not-spent, moved, fit-set}

-- the last seat of a longer list has the last place
at-end : (vs : List View) (w u : View) (j : ℕ) → get_elem? (vs ++ w ∷ []) j ≡ some u
    → (get_elem? vs j ≡ some u) ⊎ ((j ≡ length vs) × (w ≡ u))
at-end [] w u zero e = inr (refl, some-injective w u e)
at-end [] w u (suc j) e = absurd (some-ne-none u (sym e))
at-end (x ∷ xs) w u zero e = inl e
at-end (x ∷ xs) w u (suc j) e = grind (arith, ⊎_elim, get_elem?, at-end xs w u j e)

one-more : (vs : List View) (w : View) → length (vs ++ w ∷ []) ≡ suc (length vs)
one-more vs w = omega (arith, length-append vs (w ∷ []))

live : (views : List View) (seat : ℕ) (v : View) → 0 < v.number → (v ≡ spent_view) ⊎ IsLive views seat v
    → IsLive views seat v
live views seat v pos f =
    ⊎_elim (λ (z : v ≡ spent_view). absurd (not-spent v pos (sym z))) (λ (f : IsLive views seat v). f) f

-- the hand that has the right makes the next one
pub splits : (size : Size) (id : ℕ) (v : View) → 0 < v.number → v.right ≡ true → v.number < size.hands
    → Splits (Kept size) id v (without_right v) (next_view v)
splits size id v pos has room s kept at = grind (arith, live, length-set, one-more, value-same, sums, fit)
  where
    sums : (k : ℕ) (e : Bool) → total k e s.views ≡ total k e (set s.views id (without_right v) ++ next_view v ∷ [])
    sums k e = grind (arith, sum-set, sum_by_push)

    before : AllFit (set s.views id (without_right v))
    before = grind (arith, fit-set, true≢false)

    spent : (k : ℕ) → IsSpent (set s.views id (without_right v)) k
        → IsSpent (set s.views id (without_right v) ++ next_view v ∷ []) k
    spent k t = (t.0, t.1, at_longer (set s.views id (without_right v)) (next_view v ∷ []) t.0 spent_view t.2)

    answered : (r : Reading) → IsAnswered (set s.views id (without_right v)) r
        → IsAnswered (set s.views id (without_right v) ++ next_view v ∷ []) r
    answered r answer some_value = grind (arith, at_longer)

    fit : suc id ≡ length (set s.views id (without_right v)) → v.number ≡ suc id
        → AllFit (set s.views id (without_right v) ++ next_view v ∷ [])
    fit count number seat u e =
        let views = set s.views id (without_right v) in
        let views' = set s.views id (without_right v) ++ next_view v ∷ [] in
        ⊎_elim (λ (t : get_elem? views seat ≡ some u). ⊎_elim (λ (z : u ≡ spent_view). inl z)
        (λ (f : IsLive views seat u). inr (
        grind (arith, moved, spent, answered, true≢false, same-at, set_here, within))) (before seat u t))
        (grind (arith, one-more, All-cons, All-nil)) (at-end views (next_view v) u seat e)

-- a hand takes in another
pub joins : (size : Size) (id : ℕ) (v : View) (other : ℕ) (w : View) → 0 < v.number → 0 < w.number
    → Joins (Kept size) id v other w (joined v w) spent_view
joins size id v other w pos pos' s kept at apart there = grind (arith, lengths, value-same, sums, fit)
  where
    lengths : length (set (set s.views id (joined v w)) other spent_view) ≡ length s.views
    lengths = length-set (set s.views id (joined v w)) other spent_view ∙ length-set s.views id (joined v w)

    was : get_elem? s.views other ≡ some w
    was = sym (set_else s.views id other (joined v w) apart) ∙ there

    sums : (k : ℕ) (e : Bool) → total k e s.views ≡ total k e (set (set s.views id (joined v w)) other spent_view)
    sums k e = omega (
      arith,
      sum-set (λ u. tally k e u.held) s.views id v (joined v w) at,
      sum-set (λ u. tally k e u.held) (set s.views id (joined v w)) other w spent_view there,
      tally-append k e v.held w.held,
    )

    -- the other seat's place, the first seat's, and any other
    at-other : get_elem? (set (set s.views id (joined v w)) other spent_view) other ≡ some spent_view
    at-other = grind (arith, set_here, within)

    at-first : get_elem? (set (set s.views id (joined v w)) other spent_view) id ≡ some (joined v w)
    at-first = grind (arith, set_else, set_here, within)

    at-else : (j : ℕ) (u : View) → j ≢ id → j ≢ other → get_elem? s.views j ≡ some u
        → get_elem? (set (set s.views id (joined v w)) other spent_view) j ≡ some u
    at-else j u far off e = grind (arith, set_else)

    spent : (k : ℕ) → IsSpent s.views k → IsSpent (set (set s.views id (joined v w)) other spent_view) k
    spent k t = grind (arith, dite, ℕ_discrete, get_elem?, at-other, at-else, not-spent, same-at)

    gone : (k : ℕ) → IsOwn s.views other k → IsSpent (set (set s.views id (joined v w)) other spent_view) k
    gone k o = ⊎_elim (λ (e : k ≡ suc other). (other, e, at-other)) (λ (t : IsSpent s.views k). spent k t) o

    own : (k : ℕ) → IsOwn s.views id k → IsOwn (set (set s.views id (joined v w)) other spent_view) id k
    own k o = ⊎_elim (λ (e : k ≡ suc id). inl e) (λ (t : IsSpent s.views k). inr (spent k t)) o

    answered : (r : Reading) → IsAnswered s.views r → IsAnswered (set (set s.views id (joined v w)) other spent_view) r
    answered r answer some_value =
        grind (arith, dite, ℕ_discrete, at-first, Contains-append_right, same-at, was, Contains-append_left, at-else)

    Has : Hold → Type 0
    Has x = (hand : ℕ) × Contains (v.ever ++ w.ever) (grant hand x.word x.excl)

    both : IsLive s.views id v → IsLive s.views other w
        → IsLive (set (set s.views id (joined v w)) other spent_view) id (joined v w)
    both f h = record {
      number = f.number;
      own = Contains-append_left v.gathered w.gathered v.number f.own;
      right = λ r. f.right r ∙ sym lengths;
      gathered = All-append (IsOwn (set (set s.views id (joined v w)) other spent_view) id) v.gathered
          w.gathered (All-weaker (IsOwn s.views id) (IsOwn (set (set s.views id (joined v w)) other spent_view) id)
          own v.gathered f.gathered) (grind (arith, All-weaker, gone));
      ever = All-append (λ (g : Grant). IsOwn (set (set s.views id (joined v w)) other spent_view) id g.hand)
          v.ever w.ever (All-weaker (λ (g : Grant). IsOwn s.views id g.hand)
          (λ (g : Grant). IsOwn (set (set s.views id (joined v w)) other spent_view) id g.hand) (λ g. own g.hand)
          v.ever f.ever) (grind (arith, All-weaker, gone));
      held = All-append Has v.held w.held (All-weaker (λ (x : Hold). (hand : ℕ) × Contains v.ever (grant hand x.word
          x.excl)) Has (λ x t. (t.0, Contains-append_left v.ever w.ever (grant t.0 x.word x.excl) t.1)) v.held f.held)
          (All-weaker (λ (x : Hold). (hand : ℕ) × Contains w.ever (grant hand x.word x.excl))
          Has (λ x t. (t.0, Contains-append_right v.ever w.ever (grant t.0 x.word x.excl) t.1)) w.held h.held);
      read = All-append (IsAnswered (set (set s.views id (joined v w)) other spent_view)) v.read
          w.read (grind (arith, All-weaker, answered)) (grind (arith, All-weaker, answered));
    }

    fit : AllFit (set (set s.views id (joined v w)) other spent_view)
    fit seat u e =
        let views = set s.views id (joined v w) in
        let views' = set (set s.views id (joined v w)) other spent_view in
        ⊎_elim (λ (t : (seat ≡ other) × (spent_view ≡ u)). inl (sym t.1)) (λ
        (t : (seat ≢ other) × (get_elem? views seat ≡ some u)). ⊎_elim (grind (
          arith,
          both,
          live,
          ⊎_elim,
          not-spent,
          was,
        )) (λ (x : (seat ≢ id) × (get_elem? s.views seat ≡ some u)). ⊎_elim (λ (z : u ≡ spent_view). inl z)
        (λ (f : IsLive s.views seat u). inr (moved s.views views' seat u spent answered (λ r q. q ∙ sym lengths) f))
        (kept.fit seat u x.1)) (at_set s.views id seat (joined v w) u t.1)) (at_set views other seat spent_view u e)

-- no hand has two items of one word, of which one is EXCL
pub never : (size : Size) (slots id i : ℕ) (me : Me ℕ View) → 0 < tally i true me.0.held
    → 1 < tally i false me.0.held + tally i true me.0.held → Allows (Kept size) slots id me 0 (λ n. n) (λ _ _. ⊥)
never size slots id i me excl two s kept width at small =
    let t = value-sum (total i false s.views) (total i true s.views) (get_or s.words i 0) (kept.words i) in
    let shares = sum-set (λ u. tally i false u.held) s.views id me.0 spent_view at in
    let excls = sum-set (λ u. tally i true u.held) s.views id me.0 spent_view at in
    absurd (omega (arith, t.1, shares, excls, excl, two))
