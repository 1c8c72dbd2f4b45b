-- Vectors of slab keys, seen as lists.
use Rattle.list_store.proofs.Imports.{◌≡◌, ℕ, ◌+◌, ◌<◌, ◌≤◌, true, Bool, List, [], ◌∷◌, length, get_or, set, take, replicate, zero, suc, refl, ap, ◌∙◌, arith, ◌==◌, position, slice_get, Some, list_all, remove, vec_len, vec_capacity, Vec, Global, and_parts, and_from, ltb-true, lt-ltb, eqb-true, length-map, get_or-map, map-set, set-get_or, take_more_set, length-remove, list_all-append, position-Some, slice_get-get_or, all_records, orders_in, has_place, is_few, list_of, list_of-get_or}

pub list_all-set : {X : Type 0} (p : X → Bool) (xs : List X) (i : ℕ) (y : X) → list_all p xs ≡ true → p y ≡ true
    → list_all p (set xs i y) ≡ true
list_all-set p [] i y h k = refl
list_all-set p (x ∷ xs) zero y h k = and_from (p y) (list_all p xs) k (and_parts (p x) (list_all p xs) h).1
list_all-set p (x ∷ xs) (suc i) y h k =
    let parts = and_parts (p x) (list_all p xs) h in
    and_from (p x) (list_all p (set xs i y)) parts.0 (list_all-set p xs i y parts.1 k)

pub list_all-get_or : {X : Type 0} (p : X → Bool) (xs : List X) (i : ℕ) (d : X) → list_all p xs ≡ true → i < length xs
    → p (get_or xs i d) ≡ true
list_all-get_or p [] i d h lt = absurd (omega (arith, lt))
list_all-get_or p (x ∷ xs) zero d h lt = (and_parts (p x) (list_all p xs) h).0
list_all-get_or p (x ∷ xs) (suc i) d h lt =
    grind (arith, and_parts, list_all-get_or p xs i d (and_parts (p x) (list_all p xs) h).1 (omega (arith, lt)))

-- the vector of a header holds its keys
pub list_of-in : (lists : List (Vec ℕ Global)) (h : ℕ) (recs : Vec ℕ Global)
    → h < length lists → recs ≡ get_or lists h recs → list_of h (orders_in lists) ≡ recs.items
list_of-in lists h recs lt read = grind (arith, list_of-get_or, get_or-map)

pub orders_in-set : (lists : List (Vec ℕ Global)) (h : ℕ) (recs : Vec ℕ Global)
    → orders_in (set lists h recs) ≡ set (orders_in lists) h recs.items
orders_in-set lists h recs = map-set (λ (v : Vec ℕ Global). v.items) lists h recs

-- a place in one fewer stays
pub place-less : (lists : List (Vec ℕ Global)) (h : ℕ) (old new : Vec ℕ Global) → h < length lists
    → old ≡ get_or lists h old → vec_len new ≤ vec_len old → vec_capacity old ≤ vec_capacity new
    → list_all has_place lists ≡ true → list_all has_place (set lists h new) ≡ true
place-less lists h old new lt read less more places =
    grind (arith, list_all-get_or, and_parts, ltb-true, list_all-set, and_from, lt-ltb)

-- a place is room for one more
pub few-more : (lists : List (Vec ℕ Global)) (h : ℕ) (old new : Vec ℕ Global) → h < length lists
    → old ≡ get_or lists h old → vec_len new ≡ vec_len old + 1 → list_all has_place lists ≡ true
    → list_all is_few (orders_in lists) ≡ true → list_all is_few (orders_in (set lists h new)) ≡ true
few-more lists h old new lt read more places few =
    grind (arith, list_all-get_or, and_parts, orders_in-set, list_all-set, lt-ltb, ltb-true)

-- room taken in a header changes no keys
pub orders_in-kept : (lists : List (Vec ℕ Global)) (h : ℕ) (old new : Vec ℕ Global) → h < length lists
    → old ≡ get_or lists h old → new.items ≡ old.items → orders_in (set lists h new) ≡ orders_in lists
orders_in-kept lists h old new lt read same = grind (arith, orders_in-set, list_of-in, list_of-get_or, set-get_or)

pub few-replicate : (n : ℕ) → list_all is_few (replicate n []) ≡ true
few-replicate zero = refl
few-replicate (suc n) = few-replicate n

pub all-replicate : {X : Type 0} (n : ℕ) → all_records {X = X} (replicate n []) ≡ []
all-replicate zero = refl
all-replicate (suc n) = all-replicate n

pub places-more : (lists : List (Vec ℕ Global)) (h : ℕ) (new : Vec ℕ Global) → h < length lists → has_place new ≡ true
    → list_all has_place (take h lists) ≡ true → list_all has_place (take (h + 1) (set lists h new)) ≡ true
places-more lists h new lt place before = grind (arith, take_more_set, list_all-append, and_from)

-- where a key is found, it stands
pub stands_there : (keys : List ℕ) (key p : ℕ) → position (λ k. k == key) keys ≡ Some p → slice_get keys p ≡ Some key
stands_there keys key p e =
    let at = position-Some (λ (k : ℕ). k == key) keys p 0 e in
    slice_get-get_or keys p 0 at.0 ∙ ap (λ (k : ℕ). Some k) (eqb-true (get_or keys p 0) key at.1)

-- one key fewer
pub few-removed : (lists : List (Vec ℕ Global)) (h p : ℕ) (new : Vec ℕ Global) → h < length lists
    → p < length (list_of h (orders_in lists)) → new.items ≡ remove (list_of h (orders_in lists)) p
    → list_all is_few (orders_in lists) ≡ true → list_all is_few (orders_in (set lists h new)) ≡ true
few-removed lists h p new lt within made few = grind (
  arith,
  orders_in-set,
  length-map,
  length-remove,
  list_of,
  list_of-get_or,
  list_all-get_or,
  list_all-set,
  lt-ltb,
  ltb-true,
)

-- the orders of the lists as one is changed
pub ruleset orders_told = (list_of-in, orders_in-set, orders_in-kept, few-more, few-removed, place-less, places-more)
