-- Two maps that agree, with one registration less or more.
use Rattle.cache_regs.proofs.Imports.{arith, ◌≡◌, ℕ, Bool, true, false, not, cond, List, [], ◌∷◌, Option, Some, None, is_some, option_map, IfSome, find, refl, sym, ap, ◌∙◌, subst, list_any, list_all, IsDistinct, keys_of, lookup, and_parts, false≢true, Name16, ConnId, insertion, pairwise, find-insertion_past, find-insertion_here, all_from_none, all_found, any_is_found, found_passes, pairwise-insertion, Registration, is_at, is_for, index_for, stands, stands_before, place_eq, named_eq, at_place, at_name, regs_in, WritesPlace, WritesName, IsAgreed, IsAloneFor, both_implied}
use Rattle.cache_regs.proofs.RegLaws.{finds_place, places_apart}
use Rattle.cache_regs.proofs.MapLaws.{place_laws, named_laws, same_place, same_named, registration, same_regs, find_in, ordered_in, none_found, same_filter}

-- keys of which the parts are the same
places_same : (c d : ConnId) (i j : ℕ) → place_eq (c.0, i) (d.0, j) ≡ false → c.0 ≡ d.0 → i ≡ j → ⊥
places_same c d i j h e f = grind (arith, false≢true)

names_same : (c d : ConnId) (n m : Name16) → named_eq (c.0, n.0) (d.0, m.0) ≡ false → c.0 ≡ d.0 → n ≡ m → ⊥
names_same c d n m h e f = false≢true (sym h ∙ ap (λ k. named_eq (c.0, n.0) (k, m.0)) (sym e)
    ∙ ap (λ (k : Name16). named_eq (c.0, n.0) (c.0, k.0)) (sym f) ∙ named_laws.refl (c.0, n.0))

abbrev name_of : List ℕ → Name16
name_of bytes = record { 0 = bytes }

module _ (places after : List ((ℕ × ℕ) × Name16)) (names later : List ((ℕ × List ℕ) × ℕ)) (c : ConnId) (i : ℕ)
    (n : Name16) (agreed : IsAgreed places names) (unique : IsDistinct place_eq (keys_of after)) where
  -- a registration goes from both
  pub removed_agreed : at_place places c i ≡ Some n → WritesPlace places c i None after
      → WritesName names c n None later → IsAgreed after later
  removed_agreed there first second = grind (arith, name_stays, place_stays)
    where
      name_stays : (b : Bool) (d : ConnId) (j : ℕ) (m : Name16) → place_eq (c.0, i) (d.0, j) ≡ false → at_place
          places d j ≡ Some m → named_eq (c.0, n.0) (d.0, m.0) ≡ b → cond b None (at_name names d m) ≡ Some j
      name_stays true d j m other h e =
          let same = same_named (c.0, n.0) (d.0, m.0) e in
          let one : Some i ≡ Some j = sym (agreed.named c i n there) ∙ ap (λ k. lookup (named_eq k) names) same
          ∙ agreed.named d j m h in
          let index : i ≡ j = cc in absurd (places_same c d i j other (ap (λ k. k.0) same) index)
      name_stays false d j m other h e = agreed.named d j m h

      place_stays : (b : Bool) (d : ConnId) (j : ℕ) (m : Name16) → named_eq (c.0, n.0) (d.0, m.0) ≡ false
          → at_place places d j ≡ Some m → place_eq (c.0, i) (d.0, j) ≡ b → cond b None (at_place places d j) ≡ Some m
      place_stays true d j m other h e = grind (arith, same_place, names_same)
      place_stays false d j m other h e = h

  module _ (no_place : at_place places c i ≡ None) (no_name : at_name names c n ≡ None)
      (first : WritesPlace places c i (Some n) after) (second : WritesName names c n (Some i) later) where
    -- a registration comes to both
    pub added_agreed : IsAgreed after later
    added_agreed = grind (arith, named_now, placed_now)
      where
        named_now : (a b : Bool) (d : ConnId) (j : ℕ) (m : Name16) → place_eq (c.0, i) (d.0, j) ≡ a
            → named_eq (c.0, n.0) (d.0, m.0) ≡ b
            → cond a (Some n) (at_place places d j) ≡ Some m → cond b (Some i) (at_name names d m) ≡ Some j
        named_now true true d j m e f h = ap (λ k. Some k.1) (same_place _ _ e)
        named_now true false d j m e f h = grind (arith, names_same, same_place)
        named_now false true d j m e f h =
            let was = sym (agreed.named d j m h)
            ∙ ap (λ k. lookup (named_eq k) names) (sym (same_named _ _ f)) ∙ no_name in absurd (cc)
        named_now false false d j m e f h = agreed.named d j m h

        placed_now : (a b : Bool) (d : ConnId) (j : ℕ) (m : Name16) → place_eq (c.0, i) (d.0, j) ≡ a
            → named_eq (c.0, n.0) (d.0, m.0) ≡ b
            → cond b (Some i) (at_name names d m) ≡ Some j → cond a (Some n) (at_place places d j) ≡ Some m
        placed_now true true d j m e f h = ap (λ k. Some (name_of k.1)) (same_named _ _ f)
        placed_now false true d j m e f h = grind (arith, places_same, same_named)
        placed_now true false d j m e f h = grind (arith, same_place)
        placed_now false false d j m e f h = agreed.placed d m j h

    pub added_regs : regs_in after ≡ insertion (λ other. stands_before other (registration c i n)) (registration c i n)
        (regs_in places)
    added_regs =
        let reg : Registration = registration c i n in
        let none : list_any (is_at c i) (regs_in places) ≡ false
        = grind (arith, none_found, find_in, registration) in
        same_regs (regs_in after) _ (ordered_in after unique)
        (pairwise-insertion _ _ _ _ _ (finds_place reg) (all_from_none (is_at c i) (regs_in places) none)
        (ordered_in places agreed.unique)) (grind (arith, find_in, registration, there))
      where
        there : (b : Bool) (d : ConnId) (j : ℕ)
            → place_eq (c.0, i) (d.0, j) ≡ b → list_any (is_at c i) (regs_in places) ≡ false
            → option_map (registration d j) (cond b (Some n) (at_place places d j)) ≡ find (is_at d j)
            (insertion (λ other. stands_before other (registration c i n)) (registration c i n) (regs_in places))
        there true d j e none = subst (λ (k : ℕ × ℕ). Some (registration (record { 0 = k.0 }) k.1 n) ≡ find
            (is_at (record { 0 = k.0 }) k.1)
            (insertion (λ other. stands_before other (registration c i n)) (registration c i n) (regs_in places)))
            (same_place (c.0, i) (d.0, j) e) (grind (arith, find-insertion_here, registration))
        there false d j e none = grind (arith, find_in, find-insertion_past, registration)

-- ---- by name

-- what is found is what is at its own place
find_self : (p : Registration → Bool) (xs : List Registration) (reg : Registration) → pairwise stands_before xs ≡ true
    → find p xs ≡ Some reg → find (is_at reg.conn reg.index) xs ≡ Some reg
find_self p [] reg h f = absurd (cc)
find_self p (x ∷ xs) reg h f =
    let parts = and_parts (list_all (stands_before x) xs) (pairwise stands_before xs) h in
    go (p x) parts.0 parts.1 f (λ g. find_self p xs reg parts.1 g)
  where
    go : (b : Bool) → list_all (stands_before x) xs ≡ true → pairwise stands_before xs ≡ true → cond
        b (Some x) (find p xs) ≡ Some reg → (find p xs ≡ Some reg → find (is_at reg.conn reg.index) xs ≡ Some reg)
        → cond (is_at reg.conn reg.index x) (Some x) (find (is_at reg.conn reg.index) xs) ≡ Some reg
    go true all rest e ih = grind arith
    go false all rest e ih = grind (arith, false≢true, places_apart, all_found)

module _ (places : List ((ℕ × ℕ) × Name16)) (names : List ((ℕ × List ℕ) × ℕ)) (agreed : IsAgreed places names) where
  -- what a connector has for a name is what it has at that index
  at_or_for : (c : ConnId) (n : Name16) (i : ℕ) → at_name names c n ≡ Some i → (d : ConnId) (j : ℕ) (m : Name16)
      → at_place places d j ≡ Some m → is_at c i (registration d j m) ≡ is_for c n (registration d j m)
  at_or_for c n i there d j m h = both_implied _ _ (λ e. (let same = same_place _ _ e in
      let one : Some m ≡ Some n = sym h ∙ ap (λ k. lookup (place_eq k) places) same ∙ agreed.placed c n i there in
      let name : m ≡ n = cc in
      ap (λ k. named_eq (k, m.0) (c.0, n.0)) (ap (λ (k : ℕ × ℕ). k.0) same) ∙ ap (λ (k : Name16). named_eq (c.0, k.0)
      (c.0, n.0)) name ∙ named_laws.refl (c.0, n.0))) (λ e. (let same = same_named _ _ e in
      let one : Some j ≡ Some i = sym (agreed.named d j m h) ∙ ap (λ k. lookup (named_eq k) names) same ∙ there in
      let index : j ≡ i = cc in
      ap (λ k. place_eq (k, j) (c.0, i)) (ap (λ (k : ℕ × List ℕ). k.0) same)
      ∙ ap (λ k. place_eq (c.0, k) (c.0, i)) index ∙ place_laws.refl (c.0, i)))

  pub alone_found : (c : ConnId) (n : Name16) (o : Option ℕ) → o ≡ at_name names c n
      → IfSome o (λ index. IsAloneFor c n index (regs_in places))
  alone_found c n None e = tt
  alone_found c n (Some i) e = grind (arith, same_filter, registration, at_or_for)

  -- a place that is free, and a name that is
  pub free_place : (c : ConnId) (i : ℕ) → stands (regs_in places) c i ≡ false → at_place places c i ≡ None
  free_place c i h = go (at_place places c i) refl
    where
      go : (o : Option Name16) → at_place places c i ≡ o → o ≡ None
      go None e = refl
      go (Some n) e = absurd (false≢true (sym (ap not (place_laws.refl (c.0, i)))
          ∙ all_found (is_at c i) (λ reg. not (is_at c i reg)) (regs_in places) (registration c i n) (all_from_none
          (is_at c i) (regs_in places) h) (find_in places agreed.unique c i ∙ ap (option_map (registration c i)) e)))

  pub free_name : (c : ConnId) (n : Name16) → list_any (is_for c n) (regs_in places) ≡ false → at_name names c n ≡ None
  free_name c n h = go (at_name names c n) refl
    where
      go : (o : Option ℕ) → at_name names c n ≡ o → o ≡ None
      go None e = refl
      go (Some i) e = absurd (false≢true (sym (ap not (named_laws.refl (c.0, n.0)))
          ∙ all_found (is_at c i) (λ reg. not (is_for c n reg)) (regs_in places) (registration c i n)
          (all_from_none (is_for c n) (regs_in places) h) (grind (arith, find_in, registration))))

  -- what is found for a name is what the map has
  found_entry : (p : Registration → Bool) (reg : Registration) → find p (regs_in places) ≡ Some reg
      → at_name names reg.conn reg.name ≡ Some reg.index
  found_entry p reg h = agreed.named reg.conn reg.index reg.name (entry (at_place places reg.conn reg.index)
      (sym (grind (arith, find_in)) ∙ find_self p (regs_in places) reg (ordered_in places agreed.unique) h))
    where
      entry : (o : Option Name16) → option_map (registration reg.conn reg.index) o ≡ Some reg → o ≡ Some reg.name
      entry None e = absurd (cc)
      entry (Some m) e = grind (arith, registration)

  pub index_law : (c : ConnId) (n : Name16) → at_name names c n ≡ index_for (regs_in places) c n
  index_law c n = go (at_name names c n) refl (find (is_for c n) (regs_in places)) refl
    where
      named_now : (reg : Registration) → find (is_for c n) (regs_in places) ≡ Some reg
          → at_name names c n ≡ Some reg.index
      named_now reg f = ap (λ k. lookup (named_eq k) names) (sym (grind (arith, same_named, found_passes)))
          ∙ found_entry (is_for c n) reg f

      go : (o : Option ℕ) → at_name names c n ≡ o → (f : Option Registration) → find (is_for c n) (regs_in places) ≡ f
          → o ≡ option_map (λ reg. reg.index) f
      go o e (Some reg) f = sym e ∙ named_now reg f
      go None e None f = refl
      go (Some i) e None f = absurd (grind (arith, none_is_some, free_name, none_found))
        where
          none_is_some : None ≡ Some i → ⊥
          none_is_some h = absurd (cc)

  pub named_law : (c : ConnId) (n : Name16) → is_some (at_name names c n) ≡ list_any (is_for c n) (regs_in places)
  named_law c n = grind (arith, index_law, any_is_found)
