-- The entries of a map by connector and index, in order.
use Rattle.cache_regs.proofs.Imports.{◌≡◌, ℕ, zero, suc, ◌+◌, Bool, true, false, not, ◌&&◌, ◌||◌, cond, nat_lt, nat_eq, ◌==◌, List, [], ◌∷◌, Some, None, is_some, option_map, length, slice_get, filter, find, refl, sym, ap, ◌∙◌, arith, list_any, list_all, IsDistinct, keys_of, lookup, IsEquivalence, nat_eq_equiv, and_equiv, on_equiv, nat_list_eq_equiv, pointwise, bytes_decides, and_parts, and_from, eqb-true, eq-eqb, nat_tests, lookup-none, none_past_head, option_filter, Name16, ConnId, pairwise, length-insertion, find-insertion_past, find-insertion_here, any_is_found, all_from_none, find_none, none_from_all, list_all_weaker, pairwise-filter, pairwise-insertion, Registration, is_at, registered_at, stands, stands_before, place_eq, named_eq, at_place, reg_of, regs_in, WritesPlace, ordered_same}
use Rattle.cache_regs.proofs.RegLaws.{finds_place, places_apart}

pub place_laws : IsEquivalence place_eq
place_laws = and_equiv (on_equiv (λ (x : ℕ × ℕ). x.0) nat_eq_equiv) (on_equiv (λ (x : ℕ × ℕ). x.1) nat_eq_equiv)

pub named_laws : IsEquivalence named_eq
named_laws = and_equiv (grind arith) (on_equiv (λ (x : ℕ × List ℕ). x.1) nat_list_eq_equiv)

pub same_place : (j k : ℕ × ℕ) → place_eq j k ≡ true → j ≡ k
same_place j k e = grind (arith, and_parts, eqb-true)

pub same_named : (j k : ℕ × List ℕ) → named_eq j k ≡ true → j ≡ k
same_named j k e =
    let parts = and_parts (nat_eq j.0 k.0) (pointwise nat_eq j.1 k.1) e in
    let first : j.0 ≡ k.0 = eqb-true j.0 k.0 parts.0 in
    let second : j.1 ≡ k.1 = (bytes_decides j.1 k.1).0 parts.1 in λ n. (first n, second n)

abbrev pub registration : ConnId → ℕ → Name16 → Registration
registration conn index name = record { conn = conn; index = index; name = name }

-- ---- the order

before_apart : (c i d j : ℕ) → nat_lt c d || ((c == d) && nat_lt i j) ≡ true
    → ((c == d) && (i == j) ≡ false) × ((d == c) && (j == i) ≡ false)
before_apart c i d j h = (grind (arith, nat_tests), grind (arith, nat_tests))

-- two lists in order are equal where each place has the same registration
pub same_regs : (xs ys : List Registration) → pairwise stands_before xs ≡ true → pairwise stands_before ys ≡ true
    → ((conn : ConnId) (index : ℕ) → find (is_at conn index) xs ≡ find (is_at conn index) ys) → xs ≡ ys
same_regs xs ys h g f = ordered_same (λ (reg : Registration). (reg.conn.0, reg.index)) place_eq stands_before
    same_place (grind (arith, and_from, eq-eqb)) (λ x y b. before_apart x.conn.0 x.index y.conn.0 y.index b)
    (λ x y b e. (grind (arith, nat_tests))) xs ys h g (λ k. f (record { 0 = k.0 }) k.1)

-- ---- the entries in order

pub none_found : (p : Registration → Bool) (xs : List Registration) → find p xs ≡ None → list_any p xs ≡ false
none_found p xs h = any_is_found p xs ∙ ap is_some h

tail_unique : (e : (ℕ × ℕ) × Name16) (es : List ((ℕ × ℕ) × Name16)) → IsDistinct place_eq (keys_of (e ∷ es))
    → IsDistinct place_eq (keys_of es)
unfolding IsDistinct
tail_unique e es u = u.1

pub length-in : (es : List ((ℕ × ℕ) × Name16)) → length (regs_in es) ≡ length es
length-in [] = refl
length-in (e ∷ es) = grind (arith, length-insertion, length-in es)

-- what is found at a place is the entry there
pub find_in : (es : List ((ℕ × ℕ) × Name16)) → IsDistinct place_eq (keys_of es) → (conn : ConnId) (index : ℕ)
    → find (is_at conn index) (regs_in es) ≡ option_map (registration conn index) (at_place es conn index)
find_in [] u conn index = refl
find_in (e ∷ es) u conn index = go (place_eq (conn.0, index) e.0) refl (find_in es (tail_unique e es u) conn index)
  where
    go : (b : Bool) → place_eq (conn.0, index) e.0 ≡ b → find (is_at conn index) (regs_in es) ≡ option_map
        (registration conn index) (at_place es conn index) → find (is_at conn index) (regs_in (e ∷ es)) ≡ option_map
        (registration conn index) (cond (place_eq (conn.0, index) e.0) (Some e.1) (at_place es conn index))
    go true h ih =
        let none = ih ∙ ap (option_map (registration conn index)) (lookup-none (place_eq (conn.0, index)) es
        (none_past_head place_laws (conn.0, index) e es u h)) in
        find-insertion_here (is_at conn index) (λ other. stands_before other (reg_of e)) (reg_of e) (regs_in es)
        (sym (place_laws.symm (conn.0, index) e.0) ∙ h) (none_found (is_at conn index) (regs_in es) none)
        ∙ ap (λ (k : ℕ × ℕ). Some (registration (record { 0 = k.0 }) k.1 e.1)) (sym (same_place (conn.0, index) e.0 h))
        ∙ ap (λ b. option_map (registration conn index) (cond b (Some e.1) (at_place es conn index))) (sym h)
    go false h ih = grind (arith, find-insertion_past)

pub ordered_in : (es : List ((ℕ × ℕ) × Name16)) → IsDistinct place_eq (keys_of es)
    → pairwise stands_before (regs_in es) ≡ true
ordered_in [] u = refl
ordered_in (e ∷ es) u =
    let tail = tail_unique e es u in
    let none = find_in es tail (reg_of e).conn (reg_of e).index ∙ ap (option_map (registration (reg_of e).conn e.0.1))
    (lookup-none (place_eq e.0) es (none_past_head place_laws e.0 e es u (place_laws.refl e.0))) in
    pairwise-insertion _ _ _ _ _ (finds_place (reg_of e)) (all_from_none
    (is_at (reg_of e).conn (reg_of e).index) (regs_in es) (grind (arith, none_found))) (ordered_in es tail)

-- ---- what a filter leaves

-- what stands before all others is alone at its place
none_behind : (x : Registration) (xs : List Registration) (conn : ConnId) (index : ℕ)
    → list_all (stands_before x) xs ≡ true → is_at conn index x ≡ true → find (is_at conn index) xs ≡ None
none_behind x xs conn index all e = grind (arith, same_place, find_none, none_from_all, list_all_weaker, places_apart)

pub find-kept : (q : Registration → Bool) (xs : List Registration) → pairwise stands_before xs ≡ true →
    (conn : ConnId) (index : ℕ) → find (is_at conn index) (filter q xs) ≡ option_filter q (find (is_at conn index) xs)
find-kept q [] h conn index = refl
find-kept q (x ∷ xs) h conn index =
    let parts = and_parts (list_all (stands_before x) xs) (pairwise stands_before xs) h in
    grind (arith, none_behind x xs conn index parts.0, option_filter, find-kept q xs parts.1 conn index)

-- ---- one registration less

pub removed_regs : (es fs : List ((ℕ × ℕ) × Name16)) (conn : ConnId) (index : ℕ) → IsDistinct place_eq (keys_of es)
    → IsDistinct place_eq (keys_of fs) → WritesPlace es conn index None fs
    → regs_in fs ≡ filter (λ reg. not (is_at conn index reg)) (regs_in es)
removed_regs es fs conn index u v updates =
    grind (arith, same_regs, ordered_in, pairwise-filter, find_in, option_filter, find-kept)

pub same_filter : (q r : Registration → Bool) (es : List ((ℕ × ℕ) × Name16)) → IsDistinct place_eq (keys_of es)
    → ((d : ConnId) (j : ℕ) (m : Name16) → at_place es d j ≡ Some m → q (registration d j m) ≡ r (registration d j m))
    → filter q (regs_in es) ≡ filter r (regs_in es)
same_filter q r es u h = grind (arith, ordered_in, same_regs, pairwise-filter, find-kept, option_filter, find_in)

pub at_law : (es : List ((ℕ × ℕ) × Name16)) → IsDistinct place_eq (keys_of es) → (conn : ConnId) (index : ℕ)
    → at_place es conn index ≡ registered_at (regs_in es) conn index
at_law es u conn index = grind (arith, find_in)

pub stands_law : (es : List ((ℕ × ℕ) × Name16)) → IsDistinct place_eq (keys_of es) → (conn : ConnId) (index : ℕ)
    → is_some (at_place es conn index) ≡ stands (regs_in es) conn index
stands_law es u conn index = grind (arith, any_is_found, find_in)

-- an entry's place has a registration
pub entry_stands : (es : List ((ℕ × ℕ) × Name16)) → IsDistinct place_eq (keys_of es) → (k : ℕ) (place : ℕ × ℕ)
    (name : Name16) → Some (place, name) ≡ slice_get es k
    → stands (regs_in es) (record { 0 = place.0 }) place.1 ≡ true
entry_stands es u k place name h = sym (stands_law es u (record { 0 = place.0 }) place.1) ∙ there es k h
  where
    there : (es : List ((ℕ × ℕ) × Name16)) (k : ℕ) → Some (place, name) ≡ slice_get es k
        → is_some (lookup (place_eq place) es) ≡ true
    there [] k h = absurd (cc)
    there (e ∷ es) zero h = grind arith
    there (e ∷ es) (suc k) h = grind (arith, there es k h)

pub removed_len : (es fs : List ((ℕ × ℕ) × Name16)) (n : ℕ) → length fs + n ≡ length es
    → length (regs_in fs) + n ≡ length (regs_in es)
removed_len es fs n h = grind (arith, length-in)

-- ---- what `len` is proved by

pub ruleset length_told = (length-in, length-insertion)
