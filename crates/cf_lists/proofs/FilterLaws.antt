-- Filters, and what holds of all elements, of some, or of the first that passes.
use Rattle.cf_lists.proofs.Imports.{◌≡◌, ℕ, ◌≤◌, Bool, true, false, not, ◌&&◌, ◌||◌, List, [], ◌∷◌, Some, None, length, filter, find, sum_by, is_some, map, refl, ap, ◌∙◌, arith, list_any, list_all, and_parts, and_from, or_right, false≢true, filter_agree, length-filter_both, sum_by-filter_both, suc, ◌+◌, or_parts}

pub next : (n : ℕ) → 1 + n ≡ suc n
next n = omega arith

-- ---- two filters

-- one filter after another keeps what passes both
pub filter-filter : {X : Type 0} (g f : X → Bool) (xs : List X) → filter g (filter f xs) ≡ filter (λ x. f x && g x) xs
filter-filter g f [] = refl
filter-filter g f (x ∷ xs) = grind (arith, filter-filter g f xs)

-- filters commute
pub filter_swap : {X : Type 0} (g f : X → Bool) (xs : List X) → filter g (filter f xs) ≡ filter f (filter g xs)
filter_swap g f xs = grind (arith, filter-filter, filter_agree)

-- a filter that keeps all that the first one kept
pub filter_absorbed : {X : Type 0} (g f : X → Bool) → ((x : X) → f x ≡ true → g x ≡ true) → (xs : List X)
    → filter g (filter f xs) ≡ filter f xs
filter_absorbed g f h xs = filter-filter g f xs ∙ filter_agree (λ x. f x && g x) f (grind arith) xs

-- ---- all elements

-- a filter that all elements pass
pub filter_all : {X : Type 0} (p : X → Bool) (xs : List X) → list_all p xs ≡ true → filter p xs ≡ xs
filter_all p [] h = refl
filter_all p (x ∷ xs) h = grind (arith, and_parts, false≢true, filter_all p xs)

-- a filter keeps what holds of all elements
pub list_all-filter : {X : Type 0} (p q : X → Bool) (xs : List X) → list_all p xs ≡ true
    → list_all p (filter q xs) ≡ true
list_all-filter p q [] h = refl
list_all-filter p q (x ∷ xs) h = grind (arith, and_parts, and_from, list_all-filter p q xs)

-- what each element of a list has, and what follows from that
pub list_all_weaker : {X : Type 0} (p q : X → Bool) → ((x : X) → p x ≡ true → q x ≡ true) → (xs : List X)
    → list_all p xs ≡ true → list_all q xs ≡ true
list_all_weaker p q h [] e = refl
list_all_weaker p q h (x ∷ xs) e = grind (arith, and_parts, and_from, list_all_weaker p q h xs)

pub list_all_always : {X : Type 0} (p : X → Bool) → ((x : X) → p x ≡ true) → (xs : List X) → list_all p xs ≡ true
list_all_always p h [] = refl
list_all_always p h (x ∷ xs) = and_from (p x) (list_all p xs) (h x) (list_all_always p h xs)

pub list_all_both : {X : Type 0} (p q : X → Bool) (xs : List X) → list_all p xs ≡ true → list_all q xs ≡ true
    → list_all (λ x. p x && q x) xs ≡ true
list_all_both p q [] e f = refl
list_all_both p q (x ∷ xs) e f = grind (arith, and_parts, and_from, list_all_both p q xs)

-- all that a filter keeps passes it
pub list_all-filter_same : {X : Type 0} (q : X → Bool) (xs : List X) → list_all q (filter q xs) ≡ true
list_all-filter_same q [] = refl
list_all-filter_same q (x ∷ xs) = grind (arith, and_from, list_all-filter_same q xs)

-- what holds of none, and of not all
pub none_from_all : {X : Type 0} (p : X → Bool) (xs : List X) → list_all (λ x. not (p x)) xs ≡ true
    → list_any p xs ≡ false
none_from_all p [] h = refl
none_from_all p (x ∷ xs) h = grind (arith, and_parts, false≢true, none_from_all p xs)

pub all_from_none : {X : Type 0} (p : X → Bool) (xs : List X) → list_any p xs ≡ false → list_all (λ x. not (p x)) xs ≡
    true
all_from_none p [] h = refl
all_from_none p (x ∷ xs) h = grind (arith, false≢true, all_from_none p xs)

-- nothing passes p where a filter left out all that does
pub none_filtered : {X : Type 0} (p : X → Bool) (xs : List X) → list_any p (filter (λ x. not (p x)) xs) ≡ false
none_filtered p xs = none_from_all p (filter (λ x. not (p x)) xs) (list_all-filter_same (λ x. not (p x)) xs)

-- a filter that no element passes
pub filter_none : {X : Type 0} (p : X → Bool) (xs : List X) → list_any p xs ≡ false → filter p xs ≡ []
filter_none p [] h = refl
filter_none p (x ∷ xs) h = grind (arith, false≢true, filter_none p xs)

pub filter_nothing : {X : Type 0} (xs : List X) → filter (λ x. false) xs ≡ []
filter_nothing [] = refl
filter_nothing (x ∷ xs) = filter_nothing xs

-- a map that changes only what passes
pub map_same : {X : Type 0} (p : X → Bool) (f : X → X) (xs : List X) → list_any p xs ≡ false
    → ((x : X) → p x ≡ false → f x ≡ x) → map f xs ≡ xs
map_same p f [] h same = refl
map_same p f (x ∷ xs) h same = grind (arith, or_parts, map_same p f xs)

-- ---- some element

-- what a filter kept was there
pub any-filter : {X : Type 0} (p q : X → Bool) (xs : List X) → list_any p (filter q xs) ≡ true → list_any p xs ≡ true
any-filter p q [] h = h
any-filter p q (x ∷ xs) h = grind (arith, or_right, any-filter p q xs)

-- nothing new comes by a filter
pub none-filter : {X : Type 0} (p q : X → Bool) (xs : List X) → list_any p xs ≡ false
    → list_any p (filter q xs) ≡ false
none-filter p q xs h = grind (arith, any-filter, false≢true)

pub list_any-map : {X Y : Type 0} (p : X → Bool) (f : Y → X) (ys : List Y) → list_any p (map f ys) ≡ list_any
    (λ y. p (f y)) ys
list_any-map p f [] = refl
list_any-map p f (y ∷ ys) = ap (λ b. p (f y) || b) (list_any-map p f ys)

-- ---- the first element that passes

-- something passes exactly where it is found
pub any_is_found : {X : Type 0} (p : X → Bool) (xs : List X) → list_any p xs ≡ is_some (find p xs)
any_is_found p [] = refl
any_is_found p (x ∷ xs) = grind (arith, any_is_found p xs)

-- what is looked for is kept
pub find-filter : {X : Type 0} (p q : X → Bool) → ((x : X) → p x ≡ true → q x ≡ true) → (xs : List X)
    → find p (filter q xs) ≡ find p xs
find-filter p q h [] = refl
find-filter p q h (x ∷ xs) = grind (arith, false≢true, find-filter p q h xs)

-- nothing is found where nothing passes
pub find_none : {X : Type 0} (p : X → Bool) (xs : List X) → list_any p xs ≡ false → find p xs ≡ None
find_none p [] h = refl
find_none p (x ∷ xs) h = grind (arith, false≢true, find_none p xs)

-- what is found has what all have
pub all_found : {X : Type 0} (p q : X → Bool) (xs : List X) (y : X) → list_all q xs ≡ true → find p xs ≡ Some y
    → q y ≡ true
all_found p q [] y h e = absurd (cc)
all_found p q (x ∷ xs) y h e = grind (arith, and_parts, all_found p q xs y)

-- what is found passes
pub found_passes : {X : Type 0} (p : X → Bool) (xs : List X) (y : X) → find p xs ≡ Some y → p y ≡ true
found_passes p [] y e = absurd (cc)
found_passes p (x ∷ xs) y e = grind (arith, found_passes p xs y)

-- ---- lengths and sums

pub length-filter-le : {X : Type 0} (p : X → Bool) (xs : List X) → length (filter p xs) ≤ length xs
length-filter-le p xs = omega (arith, length-filter_both p (λ x. not (p x)) (λ _. refl) xs)

pub sum_by-filter-le : {X : Type 0} (f : X → ℕ) (p : X → Bool) (xs : List X) → sum_by f (filter p xs) ≤ sum_by f xs
sum_by-filter-le f p xs = omega (arith, sum_by-filter_both p (λ x. not (p x)) (λ _. refl) f xs)
