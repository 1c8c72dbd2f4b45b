-- Each step on the lock's word keeps the rule.
use Rattle.cf_turn.proofs.Imports.{◌≡◌, ℕ, zero, suc, ◌+◌, ◌<◌, ◌≤◌, eqb, List, [], ◌∷◌, ◌++◌, set, get_or, Option, Some, unwrap_or, sym, refl, ap, ◌∙◌, subst, inl, inr, ⊎_elim, arith, sum_by-cons, sum_by-append, some, none, some-injective, some-ne-none, either, get_elem?, at_set, at_snoc, set_else, State, Me, Act, step, keeps, takes, gives, Valid, carried_after, homes_after, put_back, Allows, Enters, Splits, Joins, Stand, stand_waiting, stand_in_turn, stand_spent, without_turns, both, turns_of, Knows, AllKnow, IsFree, IsTaken, Kept, Starts, Tries}

module _ {K : Type 0} where
  abbrev turns : Stand K → ℕ
  turns v = v.turns

  -- the turns after a change of one seat
  pub turns-set : (vs : List (Stand K)) (i : ℕ) (v w : Stand K) → get_elem? vs i ≡ some v
      → turns_of (set vs i w) + v.turns ≡ turns_of vs + w.turns
  turns-set [] i v w e = absurd (some-ne-none v (sym e))
  turns-set (x ∷ xs) zero v w e = omega (
    arith,
    sum_by-cons turns x xs,
    sum_by-cons turns w xs,
    ap turns (some-injective x v e),
  )
  turns-set (x ∷ xs) (suc i) v w e = omega (
    arith,
    sum_by-cons turns x xs,
    sum_by-cons turns x (set xs i w),
    turns-set xs i v w e,
  )

  -- the turns once a seat is added
  pub turns-snoc : (vs : List (Stand K)) (w : Stand K) → turns_of (vs ++ w ∷ []) ≡ turns_of vs + w.turns
  turns-snoc vs w = omega (arith, sum_by-append turns vs (w ∷ []), sum_by-cons turns w [])

  -- a seat with the key may be put in place of another
  pub know-set : (key : K) (vs : List (Stand K)) (i : ℕ) (w : Stand K) → AllKnow key vs → Knows key w
      → AllKnow key (set vs i w)
  know-set key vs i w all here j u e = ⊎_elim (λ t. subst (Knows key) t.1 here) (λ t. all j u t.1)
      (at_set vs i j w u e)

  pub know-snoc : (key : K) (vs : List (Stand K)) (w : Stand K) → AllKnow key vs → Knows key w
      → AllKnow key (vs ++ w ∷ [])
  know-snoc key vs w all here j u e = ⊎_elim (λ t. all j u t) (λ t. subst (Knows key) t here) (at_snoc vs w u j e)

  -- one key is known
  same : (key k : K) → Some key ≡ Some k → key ≡ k
  same key k e = ap (λ o. unwrap_or o key) e

  -- a seat that waits knows the key
  knows : (key : K) → Knows key (stand_waiting key)
  knows key k e = sym (same key k e)

module _ {V K : Type 0} (stands : K → V → Type 0) (key : K) where
  abbrev Hall : Type 0
  Hall = State (Option V) (Stand K)

  abbrev hall : List ℕ → List (mathlib.Core.Option.Option (Option V)) → List (Stand K) → Hall
  hall ws hs vs = record { words = ws; homes = hs; views = vs }

  -- a load makes a seat
  pub enters : (n : ℕ) → Enters (Kept stands key) n 0
      (λ found w. Starts {V = V} (step n 0 0 0 none) (stand_waiting key, []) found (w, []))
  enters n s kept wide _ =
      let w : Stand K = stand_waiting key in let added = turns-snoc s.views w in (
        w,
        (
          know-snoc key s.views w kept.0 (knows key),
          ⊎_elim (λ (t : IsFree (stands key) s). let none_before = t.1 in inl (t.0, omega arith, t.2))
              (λ (t : IsTaken s). let one_before = t.1 in inr (t.0, omega arith, t.2)) kept.1,
        ),
        refl,
      )

  abbrev Mine : Type 0
  Mine = Me (Option V) (Stand K)

  -- what an attempt leaves, where these are the words
  abbrev Goes : ℕ → ℕ → Hall → List ℕ → Type 0
  Goes n id s ws =
      let found = get_or ws 0 0 in let new = either (eqb found 0) 1 found in
      (w : Stand K) × (a : Act (Option V)) × Valid s.homes [] a × Kept stands key
      (hall (set ws 0 new) (homes_after s.homes [] a) (set s.views id w))
      × Tries stands (step n 0 0 1 none) (stand_waiting key, []) found (w, carried_after [] a)

  goes-free : (n id : ℕ) (s : Hall) → AllKnow key s.views → get_elem? s.views id ≡ some (stand_waiting key)
      → IsFree (stands key) s → Goes n id s (0 ∷ [])
  goes-free n id s all at free =
      let w : Stand K = stand_in_turn key in let moved = turns-set s.views id (stand_waiting key) w at in
      let none_before = free.1 in let there = free.2 in (
        w,
        takes 0 (Some there.0),
        ap (λ hs. get_elem? hs 0) there.1,
        (know-set key s.views id w all (knows key), inr (refl, omega arith, ap (λ hs. set hs 0 none) there.1)),
        (
          (λ _ k e. (refl, (there.0, refl, subst (λ x. stands x there.0) (same key k e) there.2))),
          λ pos. absurd (omega arith),
        ),
      )

  goes-taken : (n id : ℕ) (s : Hall) → AllKnow key s.views → get_elem? s.views id ≡ some (stand_waiting key) → IsTaken s
      → Goes n id s (1 ∷ [])
  goes-taken n id s all at taken =
      let w : Stand K = stand_waiting key in let moved = turns-set s.views id w w at in let one_before = taken.1 in (
        w,
        keeps,
        tt,
        (know-set key s.views id w all (knows key), inr (refl, omega arith, taken.2)),
        ((λ z k e. absurd (omega arith)), λ _. refl),
      )

  -- an attempt keeps the rule
  pub tries : (n id : ℕ) (me : Mine) → me ≡ (stand_waiting key, []) → Allows (Kept stands key)
      n id me 0 (λ found. either (eqb found 0) 1 found) (Tries stands (step n 0 0 1 none) me)
  tries n id me e = subst (λ (x : Mine). Allows (Kept stands key)
      n id x 0 (λ found. either (eqb found 0) 1 found) (Tries stands (step n 0 0 1 none) x))
      (sym e) (λ s kept wide at _. ⊎_elim (λ (t : IsFree (stands key) s). subst (Goes n id s) (sym t.0) (goes-free
      n id s kept.0 at t)) (λ (t : IsTaken s). subst (Goes n id s) (sym t.0) (goes-taken n id s kept.0 at t)) kept.1)

  -- a seat that has the turn gives a value back that stands to the key
  pub gives-back : (n id : ℕ) (me : Mine) (value : V) → me.0.turns ≡ 1 → me.1 ≡ (0, Some value) ∷ []
      → stands key value → Allows (Kept stands key) n id me 0 (λ _. 0) (λ _ after. after.0.turns ≡ 0)
  gives-back n id me value one out ok s kept wide at _ =
      let w : Stand K = stand_waiting key in let moved = turns-set s.views id me.0 w at in (
        w,
        gives,
        tt,
        (
          know-set key s.views id w kept.0 (knows key),
          ⊎_elim (λ (t : IsFree (stands key) s). let none_before = t.1 in absurd (omega arith))
              (λ (t : IsTaken s). let one_before = t.1 in
              inl (
                ap (λ ws. set ws 0 0) t.0,
                omega arith,
                (value, ap (put_back s.homes) out ∙ ap (λ hs. set hs 0 (some (Some value))) t.2, ok),
              )) kept.1,
        ),
        refl,
      )

  -- a seat is cut in two: one without the turns, and one with them
  pub splits : (id : ℕ) (v : Stand K) → Splits (Kept stands key) id v (without_turns v) v
  splits id v s kept at =
      let vs = s.views in let moved = turns-set vs id v (without_turns v) at in let added =
      turns-snoc (set vs id (without_turns v)) v in
      let ours : Knows key v = kept.0 id v at in (
        know-snoc key (set vs id (without_turns v)) v (know-set key vs id (without_turns v) kept.0 ours) ours,
        ⊎_elim (λ (t : IsFree (stands key) s). let none_before = t.1 in inl (t.0, omega arith, t.2))
            (λ (t : IsTaken s). let one_before = t.1 in inr (t.0, omega arith, t.2)) kept.1,
      )

  -- no state has two turns
  few : (s : Hall) → Kept stands key s → turns_of s.views ≤ 1
  few s kept = ⊎_elim (λ (t : IsFree (stands key) s). let none_before = t.1 in omega arith)
      (λ (t : IsTaken s). let one_before = t.1 in omega arith) kept.1

  -- so two seats that have the turn can't be joined
  pub joins : (id : ℕ) (v : Stand K) (other : ℕ) (w : Stand K) → v.turns ≡ 1 → w.turns ≡ 1
      → Joins (Kept stands key) id v other w (both v w) stand_spent
  joins id v other w one two s kept at apart there =
      let vs : List (Stand K) = set s.views id stand_spent in let was =
      sym (set_else s.views id other (both v w) apart) ∙ there in
      let moved = turns-set s.views id v stand_spent at in let gone =
      turns-set vs other w stand_spent (set_else s.views id other stand_spent apart ∙ was) in
      let most = few s kept in absurd (omega arith)

  -- and no seat has two turns
  pub never : (n id : ℕ) (me : Mine) → 1 < me.0.turns → Allows (Kept stands key) n id me 0 (λ found. found) (λ _ _. ⊥)
  never n id me two s kept wide at _ = let moved = turns-set s.views id me.0 stand_spent at in let most =
      few s kept in absurd (omega arith)
