-- Each step keeps the rule.
use Rattle.lock_words.proofs.Imports.{◌≡◌, ◌≢◌, ◌==◌, ◌+◌, ◌-◌, ◌*◌, ◌%◌, ◌^◌, ◌<◌, ◌≤◌, ◌⊎◌, ℕ, zero, suc, Bool, true, false, not, cond, List, [], ◌∷◌, ◌++◌, length, set, get_or, Contains, refl, sym, ap, ◌∙◌, subst, inl, inr, ⊎_elim, arith, if◌then◌else◌, eqb-true, length-set, All-weaker, All-push, All-filter, All-contains, Contains-append_left, Contains-push, some, some-injective, some-ne-none, dite, ℕ_discrete, either, get_elem?, State, Me, keeps, Allows, at_set, set_here, set_else, Hold, Reading, Grant, View, Size, tally, IsValue, says_excl, Admits, Adds, hold, reading, grant, spent_view, looked, granted, tried, released, Becomes, total, IsSpent, IsOwn, IsAnswered, IsLive, AllFit, Kept}
use Rattle.lock_words.proofs.Tallies.{one, tally-push, one-other, one-same, one-opposite, tally-released, tally-spared, counted, sum-set, somewhere, value-sum, value-is, value-same, value-state, values-set, taken-off}

pub within : (vs : List View) (i : ℕ) (v : View) → get_elem? vs i ≡ some v → i < length vs
within [] i v e = absurd (some-ne-none v (sym e))
within (x ∷ xs) zero v e = omega arith
within (x ∷ xs) (suc i) v e = let h = within xs i v e in omega arith

-- two things at one place are one
pub same-at : (vs : List View) (i j : ℕ) (u v : View) → i ≡ j → get_elem? vs i ≡ some u → get_elem? vs j ≡ some v
    → u ≡ v
same-at vs i j u v p a b = some-injective u v (sym a ∙ (ap (get_elem? vs) p ∙ b))

-- a hand isn't one that was taken in
pub not-spent : (v : View) → 0 < v.number → spent_view ≡ v → ⊥
not-spent v pos e = let z : 0 ≡ v.number = ap (λ (u : View). u.number) e in omega arith

-- the same hand in a change of the seats
pub moved : (views views' : List View) (seat : ℕ) (v : View) → ((k : ℕ) → IsSpent views k → IsSpent views' k)
    → ((r : Reading) → IsAnswered views r → IsAnswered views' r) → (v.right ≡ true
    → suc seat ≡ length views → suc seat ≡ length views') → IsLive views seat v → IsLive views' seat v
moved views views' seat v spent answered right f = grind (arith, All-weaker, ⊎_elim)

module _ (views : List View) (id : ℕ) (v w : View) (at : get_elem? views id ≡ some v) (pos : 0 < v.number) where
  pub spent-set : (k : ℕ) → IsSpent views k → IsSpent (set views id w) k
  spent-set k s = grind (arith, set_else, not-spent, same-at)

  pub answered-set : ((g : Grant) → Contains v.ever g → Contains w.ever g) → (r : Reading) → IsAnswered views r
      → IsAnswered (set views id w) r
  answered-set more r answer some_value =
      let a = answer some_value in dite (ℕ_discrete a.0 id) (λ (e : a.0 ≡ id). (
        id,
        w,
        a.2,
        set_here views id w (within views id v at),
        a.4,
        more (grant a.2 r.word (says_excl r.value)) (grind (arith, same-at)),
      )) (λ (ne : a.0 ≢ id). (a.0, a.1, a.2, set_else views id a.0 w ne ∙ a.3, a.4, a.5))

  -- one hand's step
  pub fit-set : AllFit views → ((g : Grant) → Contains v.ever g → Contains w.ever g)
      → (IsLive (set views id w) id v → IsLive (set views id w) id w) → AllFit (set views id w)
  fit-set fit more mine seat u e = ⊎_elim (λ (t : (seat ≡ id) × (w ≡ u)). inr (subst
      (λ (p : ℕ × View). IsLive (set views id w) p.0 p.1) (λ i. (sym t.0 i, t.1 i)) (⊎_elim
      (λ (z : v ≡ spent_view). absurd (not-spent v pos (sym z))) (λ (f : IsLive views id v). mine (here id v f))
      (fit id v at)))) (λ (t : (seat ≢ id) × (get_elem? views seat ≡ some u)). ⊎_elim (λ (z : u ≡ spent_view). inl z)
      (λ (f : IsLive views seat u). inr (here seat u f)) (fit seat u t.1)) (at_set views id seat w u e)
    where
      here : (seat : ℕ) (u : View) → IsLive views seat u → IsLive (set views id w) seat u
      here seat u f = grind (arith, moved, spent-set, answered-set, length-set)

-- what a hand finds in a word that it doesn't hold is another's
pub answers : (size : Size) (s : State ℕ View) (id word : ℕ) (v : View) → Kept size s → get_elem? s.views id ≡ some v
    → 0 < v.number → tally word false v.held ≡ 0 → tally word true v.held ≡ 0
    → IsAnswered s.views (reading v.number word (get_or s.words word 0))
answers size s id word v kept at pos no_share no_excl some_value =
    let n = get_or s.words word 0 in
    let b = says_excl n in
    let there = somewhere (λ u. tally word b u.held) s.views (grind (arith, some_of, value-state)) in
    go there.0 there.1 b there.2 there.3 (kept.fit there.0 there.1 there.2)
  where
    some_of : (b : Bool) → 0 < cond b (total word true s.views) (total word false s.views) → 0 < total word b s.views
    some_of true p = p
    some_of false p = p

    nothing : (b : Bool) → tally word b v.held ≡ 0
    nothing true = no_excl
    nothing false = no_share

    apart : (seat : ℕ) (u : View) (hand : ℕ) (b : Bool) → get_elem? s.views seat ≡ some u → 0 < tally word b u.held
        → IsOwn s.views seat hand → hand ≢ v.number
    apart seat u hand b there has own same = grind (arith, ⊎_elim, not-spent, same-at, nothing)

    go : (seat : ℕ) (u : View) (b : Bool) → get_elem? s.views seat ≡ some u
        → 0 < tally word b u.held → (u ≡ spent_view) ⊎ IsLive s.views seat u → (j : ℕ) × (x : View)
        × (hand : ℕ) × (get_elem? s.views j ≡ some x) × (hand ≢ v.number) × Contains x.ever (grant hand word b)
    go seat u b there has (inl z) = grind arith
    go seat u b there has (inr f) =
        let got = counted (λ x. (hand : ℕ) × Contains u.ever (grant hand x.word x.excl)) word b u.held f.held has in (
          seat,
          u,
          got.0,
          there,
          apart seat u got.0 b there has
              (All-contains (λ (g : Grant). IsOwn s.views seat g.hand) u.ever (grant got.0 word b) f.ever got.1),
          got.1,
        )

-- a step on one word, by a hand
pub stepped-kept : (size : Size) (s : State ℕ View) (id i n : ℕ) (v w : View) → Kept size s → get_elem?
    s.views id ≡ some v → 0 < v.number → i < suc size.words → ((g : Grant) → Contains v.ever g → Contains w.ever g)
    → (IsLive (set s.views id w) id v → IsLive (set s.views id w) id w) → ((k : ℕ) (e : Bool) → k ≢ i → tally
    k e w.held ≡ tally k e v.held) → IsValue (total i false (set s.views id w)) (total i true (set s.views id w)) n
    → Kept size (record { words = set s.words i n; homes = s.homes; views = set s.views id w })
stepped-kept size s id i n v w kept at pos below more mine same here = grind (arith, length-set, values-set, fit-set)

-- a reading more
pub live-looked : (views : List View) (seat : ℕ) (v : View) (word value : ℕ)
    → IsAnswered views (reading v.number word value) → IsLive views seat v → IsLive views seat (looked v word value)
live-looked views seat v word value answer f = record {
  number = f.number;
  own = f.own;
  right = f.right;
  gathered = f.gathered;
  ever = f.ever;
  held = f.held;
  read = All-push (IsAnswered views) v.read (reading v.number word value) f.read answer;
}

-- a grant more
pub live-granted : (views : List View) (seat : ℕ) (v : View) (word : ℕ) (excl : Bool) → IsLive views seat v
    → IsLive views seat (granted v word excl)
live-granted views seat v word excl f =
    let g = grant v.number word excl in record {
      number = f.number;
      own = f.own;
      right = f.right;
      gathered = f.gathered;
      ever = All-push (λ (g : Grant). IsOwn views seat g.hand) v.ever g f.ever (inl f.number);
      held = All-push Has v.held (hold word excl) (All-weaker (λ (x : Hold). (hand : ℕ) × Contains v.ever (grant
          hand x.word x.excl)) Has (λ x h. (h.0, Contains-append_left v.ever (g ∷ []) (grant h.0 x.word x.excl) h.1))
          v.held f.held) (v.number, Contains-push v.ever g);
      read = f.read;
    }
  where
    Has : Hold → Type 0
    Has x = (hand : ℕ) × Contains (v.ever ++ grant v.number word excl ∷ []) (grant hand x.word x.excl)

-- one lock fewer
pub live-released : (views : List View) (seat : ℕ) (v : View) (word : ℕ) → IsLive views seat v
    → IsLive views seat (released v word)
live-released views seat v word f = record {
  number = f.number;
  own = f.own;
  right = f.right;
  gathered = f.gathered;
  ever = f.ever;
  held = All-filter (λ (x : Hold). not (x.word == word))
      (λ (x : Hold). (hand : ℕ) × Contains v.ever (grant hand x.word x.excl)) v.held f.held;
  read = f.read;
}

-- a hand loads a word that it doesn't hold
pub looks : (size : Size) (slots id i : ℕ) (me : Me ℕ View) → i < size.words → 0 < me.0.number
    → tally i false me.0.held ≡ 0 → tally i true me.0.held ≡ 0
    → Allows (Kept size) slots id me i (λ n. n) (λ n after. Becomes me (looked me.0 i n) after)
looks size slots id i me below pos no_share no_excl s kept width at small =
    let v = me.0 in
    let n = get_or s.words i 0 in
    let w = looked v i n in (
      w,
      keeps,
      tt,
      stepped-kept size s id i n v w kept at pos (omega arith) (λ g h. h) (live-looked
          (set s.views id w) id v i n (answered-set s.views id v w at pos (λ g h. h) (reading v.number i n)
          (answers size s id i v kept at pos no_share no_excl))) (λ k e ne. refl) (grind (arith, value-same, sums)),
      (refl, refl),
    )
  where
    sums : (n : ℕ) (e : Bool) → total i e s.views ≡ total i e (set s.views id (looked me.0 i n))
    sums n e = omega (arith, sum-set (λ u. tally i e u.held) s.views id me.0 (looked me.0 i n) at)

-- a hand exchanges a word that it doesn't hold, from a value that admits it
pub tries : (size : Size) (slots id i old new : ℕ) (excl : Bool) (me : Me ℕ View) → i < size.words → 0 < me.0.number
    → tally i false me.0.held ≡ 0 → tally i true me.0.held ≡ 0 → Admits old excl → Adds old excl new → Allows
    (Kept size) slots id me i (λ n. either (n == old) new n) (λ n after. Becomes me (tried me.0 i old new n) after)
tries size slots id i old new excl me below pos no_share no_excl admits adds s kept width at small =
    go (get_or s.words i 0 == old) refl
  where
    Goal : Bool → Type 0
    Goal b =
        let n = get_or s.words i 0 in
        let t = if b then granted (looked me.0 i n) i (says_excl new) else looked me.0 i n in
        (w : View) × (a : Rattle.atomic_table.specs.Table.Act ℕ) × Rattle.atomic_table.specs.Table.Valid s.homes me.1 a
        × Kept size (Rattle.atomic_table.specs.Table.stepped s i (either b new n) id me.1 w a)
        × Becomes me t (w, Rattle.atomic_table.specs.Table.carried_after me.1 a)

    answer : IsAnswered s.views (reading me.0.number i (get_or s.words i 0))
    answer = answers size s id i me.0 kept at pos no_share no_excl

    got : ℕ → View
    got n = granted (looked me.0 i n) i excl

    more : (n : ℕ) (g : Grant) → Contains me.0.ever g → Contains (me.0.ever ++ grant me.0.number i excl ∷ []) g
    more n g h = Contains-append_left me.0.ever (grant me.0.number i excl ∷ []) g h

    sums : (n : ℕ) (e : Bool) → total i e (set s.views id (got n)) ≡ total i e s.views + one i e (hold i excl)
    sums n e = omega (
      arith,
      sum-set (λ u. tally i e u.held) s.views id me.0 (got n) at,
      tally-push i e me.0.held (hold i excl),
    )

    value : (e : Bool) → excl ≡ e → Admits old e → new ≡ cond e 9223372036854775808 (old + 1) → (n : ℕ) → n ≡ old
        → IsValue (total i false s.views) (total i true s.views) n
        → IsValue (total i false s.views + one i false (hold i e)) (total i true s.views + one i true (hold i e)) new
    value true is adm q n same v = grind (arith, value-sum, value-is, same, one-same, one-opposite)
    value false is adm q n same v = grind (arith, value-sum, value-is, same, one-same, one-opposite)

    same : (n : ℕ) (e : Bool) → total i e s.views ≡ total i e (set s.views id (looked me.0 i n))
    same n e = omega (arith, sum-set (λ u. tally i e u.held) s.views id me.0 (looked me.0 i n) at)

    go : (b : Bool) → (get_or s.words i 0 == old) ≡ b → Goal (get_or s.words i 0 == old)
    go true is = subst Goal (sym is) (let n = get_or s.words i 0 in (
      got n,
      keeps,
      tt,
      stepped-kept size s id i new me.0 (got n) kept at pos
          (omega arith) (more n) (λ f. live-granted (set s.views id (got n)) id (looked me.0 i n)
          i excl (live-looked (set s.views id (got n)) id me.0 i n (answered-set s.views id me.0 (got n)
          at pos (more n) (reading me.0.number i n) answer) f)) (λ k e ne. omega (
            arith,
            tally-push k e me.0.held (hold i excl),
            one-other i k e excl (λ q. ne (sym q)),
          )) (grind (arith, value-same, sums, value, eqb-true)),
      (ap (λ e. granted (looked me.0 i n) i e) (sym adds.0), refl),
    ))
    go false is = subst Goal (sym is) (let n = get_or s.words i 0 in let w = looked me.0 i n in (
      w,
      keeps,
      tt,
      stepped-kept size s id i n me.0 w kept at pos (omega arith) (λ g h. h) (live-looked (set s.views id w)
          id me.0 i n (answered-set s.views id me.0 w at pos (λ g h. h) (reading me.0.number i n) answer))
          (λ k e ne. refl) (value-same _ _ n _ _ _ (same n false) (same n true) refl (kept.words i)),
      (refl, refl),
    ))

-- a hand takes itself off a word that it holds
pub frees : (size : Size) (slots id i share : ℕ) (me : Me ℕ View)
    → i < size.words → 0 < me.0.number → tally i false me.0.held + tally i true me.0.held ≡ 1
    → share ≡ tally i false me.0.held + tally i true me.0.held * 9223372036854775808 → Allows
    (Kept size) slots id me i (λ n. (n + (2 ^ 64 - share)) % 2 ^ 64) (λ n after. Becomes me (released me.0 i) after)
frees size slots id i share me below pos holds is s kept width at small =
    let n = get_or s.words i 0 in
    let w = released me.0 i in
    let old = value-sum (total i false s.views) (total i true s.views) n (kept.words i) in
    let le = at_least n old.0 old.1 in
    let lower = taken-off n share le small in (
      w,
      keeps,
      tt,
      stepped-kept size s id i ((n + (2 ^ 64 - share)) % 2 ^ 64)
          me.0 w kept at pos (omega arith) (λ g h. h) (live-released (set s.views id w) id me.0 i)
          (λ k e ne. tally-spared i k e me.0.held ne) (value-is _ _ _ (omega (
            arith,
            sums false,
            sums true,
            tally-released i false me.0.held,
            tally-released i true me.0.held,
            old.0,
            old.1,
            lower,
            is,
            holds,
          )) (omega (
            arith,
            sums false,
            sums true,
            tally-released i false me.0.held,
            tally-released i true me.0.held,
            old.1,
          ))),
      (refl, refl),
    )
  where
    sums : (e : Bool) → total i e (set s.views id (released me.0 i)) + tally i e me.0.held
        ≡ total i e s.views + tally i e (released me.0 i).held
    sums e = sum-set (λ u. tally i e u.held) s.views id me.0 (released me.0 i) at

    at_least : (n : ℕ) → n ≡ total i false s.views + total i true s.views * 9223372036854775808
        → total i false s.views + total i true s.views * 65535 ≤ 65535 → share ≤ n
    at_least n sum most = omega (
      arith,
      sums false,
      sums true,
      tally-released i false me.0.held,
      tally-released i true me.0.held,
      is,
      holds,
      sum,
      most,
    )
