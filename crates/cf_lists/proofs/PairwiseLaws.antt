-- What holds between each element of a list and each later one.
use Rattle.cf_lists.proofs.Imports.{arith, ◌≡◌, Bool, true, false, not, ◌&&◌, cond, List, [], ◌∷◌, ◌++◌, filter, map, refl, list_all, and_parts, and_from, list_all-append, list_all-map, insertion, pairwise}
use Rattle.cf_lists.proofs.FilterLaws.{list_all-filter, list_all_both, list_all_weaker}
use Rattle.cf_lists.proofs.InsertionLaws.{list_all-insertion}

pub pairwise-filter : {X : Type 0} (relation : X → X → Bool) (q : X → Bool) (xs : List X)
    → pairwise relation xs ≡ true → pairwise relation (filter q xs) ≡ true
pairwise-filter relation q [] h = refl
pairwise-filter relation q (x ∷ xs) h =
    grind (arith, and_parts, and_from, list_all-filter, pairwise-filter relation q xs)

pub pairwise_weaker : {X : Type 0} (r s : X → X → Bool) → ((x y : X) → r x y ≡ true → s x y ≡ true) → (xs : List X)
    → pairwise r xs ≡ true → pairwise s xs ≡ true
pairwise_weaker r s h [] e = refl
pairwise_weaker r s h (x ∷ xs) e = grind (arith, and_parts, and_from, list_all_weaker, pairwise_weaker r s h xs)

-- one more element at the end
pub pairwise_push : {X : Type 0} (relation : X → X → Bool) (xs : List X) (y : X) → pairwise relation xs ≡ true
    → list_all (λ x. relation x y) xs ≡ true → pairwise relation (xs ++ y ∷ []) ≡ true
pairwise_push relation [] y h e = refl
pairwise_push relation (x ∷ xs) y h e = grind (arith, and_parts, and_from, list_all-append, pairwise_push relation xs y)

-- one list behind another
pub pairwise_append : {X : Type 0} (relation : X → X → Bool) (xs ys : List X) → pairwise relation xs ≡ true → pairwise
    relation ys ≡ true → list_all (λ x. list_all (relation x) ys) xs ≡ true → pairwise relation (xs ++ ys) ≡ true
pairwise_append relation [] ys h k e = k
pairwise_append relation (x ∷ xs) ys h k e =
    grind (arith, and_parts, and_from, list_all-append, pairwise_append relation xs ys)

-- a front of a list
pub pairwise_front : {X : Type 0} (relation : X → X → Bool) (xs ys : List X) → pairwise relation (xs ++ ys) ≡ true
    → pairwise relation xs ≡ true
pairwise_front relation [] ys h = refl
pairwise_front relation (x ∷ xs) ys h =
    grind (arith, and_parts, list_all-append, and_from, pairwise_front relation xs ys)

-- an element that is related to all others both ways may stand anywhere
pub pairwise-insertion_any : {X : Type 0} (relation : X → X → Bool) (before : X → Bool) (x : X) (xs : List X)
    → pairwise relation xs ≡ true → list_all (λ y. relation x y && relation y x) xs ≡ true
    → pairwise relation (insertion before x xs) ≡ true
pairwise-insertion_any relation before x [] h e = refl
pairwise-insertion_any relation before x (y ∷ ys) h e = grind (
  arith,
  and_parts,
  list_all_weaker,
  list_all-insertion,
  and_from,
  pairwise-insertion_any relation before x ys,
)

-- ---- an element in its place, where the relation is an order

-- those that stand before it are related to it; it is related to each other one of these, and to all to which such a
-- one is related
pub record FindsPlace {X : Type 0} (relation : X → X → Bool) (before among : X → Bool) (x : X) : Type 0 where
  pub front : (y : X) → before y ≡ true → relation y x ≡ true
  pub stop : (y : X) → among y ≡ true → before y ≡ false → relation x y ≡ true
  pub follows : (y z : X) → relation x y ≡ true → relation y z ≡ true → relation x z ≡ true

pub pairwise-insertion : {X : Type 0} (relation : X → X → Bool) (before among : X → Bool) (x : X) (xs : List X)
    → FindsPlace relation before among x → list_all among xs ≡ true → pairwise relation xs ≡ true
    → pairwise relation (insertion before x xs) ≡ true
pairwise-insertion relation before among x [] finds there h = refl
pairwise-insertion relation before among x (y ∷ ys) finds there h = grind (
  arith,
  and_parts,
  list_all-insertion,
  and_from,
  list_all_weaker,
  pairwise-insertion relation before among x ys finds,
)

-- ---- those that pass a test first, then the others

cross_step : {X : Type 0} (relation : X → X → Bool) → ((x y : X) → relation x y ≡ true → relation y x ≡ true)
    → (b : Bool) (x : X) (passing others : List X) → list_all (relation x) passing ≡ true
    → list_all (relation x) others ≡ true → list_all (λ z. list_all (relation z) others) passing ≡ true
    → list_all (λ z. list_all (relation z) (cond (not b) (x ∷ others) others)) (cond b (x ∷ passing) passing) ≡ true
cross_step relation turn true x passing others p o ih = grind (arith, and_from)
cross_step relation turn false x passing others p o ih = list_all_both (λ z. relation z x) (λ z.
    list_all (relation z) others) passing (list_all_weaker (relation x) (λ z. relation z x) (turn x) passing p) ih

cross : {X : Type 0} (relation : X → X → Bool) → ((x y : X) → relation x y ≡ true → relation y x ≡ true)
    → (s : X → Bool) (xs : List X) → pairwise relation xs ≡ true
    → list_all (λ x. list_all (relation x) (filter (λ z. not (s z)) xs)) (filter s xs) ≡ true
cross relation turn s [] h = refl
cross relation turn s (x ∷ xs) h =
    let parts = and_parts (list_all (relation x) xs) (pairwise relation xs) h in
    cross_step relation turn (s x) x _ _ (list_all-filter _ s xs parts.0)
    (list_all-filter _ (λ z. not (s z)) xs parts.0) (cross relation turn s xs parts.1)

pub pairwise_split : {X : Type 0} (relation : X → X → Bool) → ((x y : X) → relation x y ≡ true → relation y x ≡ true)
    → (s : X → Bool)
    (xs : List X) → pairwise relation xs ≡ true → pairwise relation (filter s xs ++ filter (λ x. not (s x)) xs) ≡ true
pairwise_split relation turn s xs h = pairwise_append relation _ _
    (pairwise-filter _ s xs h) (pairwise-filter _ (λ x. not (s x)) xs h) (cross relation turn s xs h)

-- ---- a map

pub pairwise-map : {X : Type 0} (relation : X → X → Bool) (f : X → X) → ((x y : X)
    → relation (f x) (f y) ≡ relation x y) → (xs : List X) → pairwise relation (map f xs) ≡ pairwise relation xs
pairwise-map relation f h [] = refl
pairwise-map relation f h (x ∷ xs) = grind (arith, list_all-map, pairwise-map relation f h xs)
