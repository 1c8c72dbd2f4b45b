-- The last name of all.
use Rattle.cache_classes.proofs.Imports.{◌≡◌, ℕ, zero, suc, ◌+◌, ◌-◌, ◌≤◌, ◌<◌, Bool, true, false, not, cond, List, [], ◌∷◌, Option, None, Some, option_map, slice_get, length, drop, refl, sym, ap, ◌∙◌, arith, list_all, and_parts, not-true, drop_all, Name16, name_before, insertion, pairwise, arranged, in_turn, Changed, name_of, last_name, later, Entry, changed_at, entries_in, classes_in}
use Rattle.cache_classes.proofs.{NameOrder.name_order, MapLaws.in_order_in}

-- the last of a list, step by step
abbrev last_after : Name16 → List Changed → Name16
last_after name [] = name
last_after name (x ∷ xs) = last_after x.name xs

at_end : (x : Changed) (xs : List Changed)
    → option_map name_of (slice_get (x ∷ xs) (length xs)) ≡ Some (last_after x.name xs)
at_end x [] = refl
at_end x (y ∷ ys) = at_end y ys

last_is : (x : Changed) (xs : List Changed) → last_name (x ∷ xs) ≡ Some (last_after x.name xs)
last_is x xs =
    let back : length (x ∷ xs) - 1 ≡ length xs = omega arith in
    ap (λ n. option_map name_of (slice_get (x ∷ xs) n)) back ∙ at_end x xs

-- what stands last isn't before what stands in front
not_ahead : (first : Name16) (xs : List Changed) (name : Name16) → list_all (λ y. not (name_before y.name first))
    xs ≡ true → name_before name first ≡ false → name_before (last_after name xs) first ≡ false
not_ahead first [] name h e = e
not_ahead first (x ∷ xs) name h e =
    let parts = and_parts (not (name_before x.name first)) (list_all (λ y. not (name_before y.name first)) xs) h in
    not_ahead first xs x.name parts.1 (not-true (name_before x.name first) parts.0)

-- one more behind a list whose last doesn't stand before it
stays : (new first : Name16) (xs : List Changed) → name_before first new ≡ false → list_all (λ y. not (name_before
    y.name first)) xs ≡ true → Some (last_after first xs) ≡ later (Some (last_after first xs)) (Some new)
stays new first xs e h =
    let last : Name16 = last_after first xs in
    let behind : name_before last new ≡ false = name_order.follows new first last e
    (not_ahead first xs first h (name_order.once first)) in
    rw behind refl

abbrev InTurn : List Changed → Type 0
InTurn xs = pairwise (in_turn name_of name_before) xs ≡ true

abbrev placed : Changed → List Changed → List Changed
placed new xs = insertion (λ y. name_before y.name new.name) new xs

-- one more in its place, behind a name that stands before it
last_with : (new : Changed) (name : Name16) (xs : List Changed) → name_before name new.name ≡ true → InTurn xs
    → Some (last_after name (placed new xs)) ≡ later (Some (last_after name xs)) (Some new.name)
last_with new name [] e turn = rw e refl
last_with new name (x ∷ xs) e turn =
    let parts = and_parts (list_all (in_turn name_of name_before x) xs) (pairwise (in_turn name_of name_before) xs)
    turn in
    go (name_before x.name new.name) refl parts.0 (λ f. last_with new x.name xs f parts.1)
  where
    go : (b : Bool) → name_before x.name new.name ≡ b → list_all (in_turn name_of name_before x) xs ≡ true
        → (name_before x.name new.name ≡ true
        → Some (last_after x.name (placed new xs)) ≡ later (Some (last_after x.name xs)) (Some new.name))
        → Some (last_after name (placed new (x ∷ xs))) ≡ later (Some (last_after x.name xs)) (Some new.name)
    go true f h ih = ap (λ (b : Bool). Some (last_after name (cond b (x ∷ placed new xs) (new ∷ x ∷ xs)))) f ∙ ih f
    go false f h ih = grind (arith, stays)

last_more : (new : Changed) (xs : List Changed) → InTurn xs
    → last_name (placed new xs) ≡ later (last_name xs) (Some new.name)
last_more new [] turn = refl
last_more new (x ∷ xs) turn = grind (arith, and_parts, last_is, last_with, stays)

-- one entry more in front of those behind it
pub last_next : (es : List Entry) (k : ℕ) → k < length es → later (last_name (classes_in (drop (k + 1) es)))
    (option_map name_of (slice_get (entries_in es) k)) ≡ last_name (classes_in (drop k es))
unfolding arranged
last_next [] k less = absurd (omega (arith, less))
last_next (e ∷ es) zero less = sym (last_more (changed_at e) (classes_in es) (in_order_in es))
last_next (e ∷ es) (suc k) less =
    let next : suc k + 1 ≡ suc (k + 1) = omega arith in rw next (last_next es k (omega (arith, less)))

pub last_none : (es : List Entry) (k : ℕ) → length es ≤ k → None ≡ last_name (classes_in (drop k es))
unfolding arranged
last_none es k past = ap (λ (l : List Entry). last_name (classes_in l)) (sym (drop_all k es past))

pub last_step : (es : List Entry) (k now : ℕ) (last next : Option Name16)
    → k ≡ now + 1 → k ≤ length es → last ≡ last_name (classes_in (drop k es)) → next ≡ later
    last (option_map name_of (slice_get (entries_in es) now)) → next ≡ last_name (classes_in (drop now es))
last_step es k now last next is within so_far e = grind (arith, last_next)
