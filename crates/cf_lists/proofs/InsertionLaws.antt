-- A list with one more element in its place.
use Rattle.cf_lists.proofs.Imports.{◌≡◌, ℕ, ◌+◌, Bool, true, false, ◌&&◌, ◌||◌, List, [], ◌∷◌, Some, length, filter, find, sum_by, refl, arith, list_any, list_all, prefix_len, insert, false≢true, or_right, sum_by-cons, insertion}
use Rattle.cf_lists.proofs.FilterLaws.{next}

insert_later : {X : Type 0} (x y : X) (xs : List X) (i : ℕ) → insert (y ∷ xs) (1 + i) x ≡ y ∷ insert xs i x
insert_later x y xs i = rw (next i) refl

-- an insertion behind the longest front that stands before it
pub insert-prefix_len : {X : Type 0} (before : X → Bool) (x : X) (xs : List X)
    → insert xs (prefix_len before xs) x ≡ insertion before x xs
insert-prefix_len before x [] = refl
insert-prefix_len before x (y ∷ xs) = grind (arith, insert_later, insert-prefix_len before x xs)

pub list_all-insertion : {X : Type 0} (p before : X → Bool) (x : X) (xs : List X)
    → list_all p (insertion before x xs) ≡ p x && list_all p xs
list_all-insertion p before x [] = refl
list_all-insertion p before x (y ∷ ys) = grind (arith, list_all-insertion p before x ys)

pub list_any-insertion : {X : Type 0} (p before : X → Bool) (x : X) (xs : List X)
    → list_any p (insertion before x xs) ≡ p x || list_any p xs
list_any-insertion p before x [] = refl
list_any-insertion p before x (y ∷ ys) = grind (arith, list_any-insertion p before x ys)

pub length-insertion : {X : Type 0} (before : X → Bool) (x : X) (xs : List X) → length (insertion before x xs) ≡
    length xs + 1
length-insertion before x [] = refl
length-insertion before x (y ∷ ys) = grind (arith, length-insertion before x ys)

pub sum_by-insertion : {X : Type 0} (f : X → ℕ) (before : X → Bool) (x : X) (xs : List X)
    → sum_by f (insertion before x xs) ≡ f x + sum_by f xs
sum_by-insertion f before x [] = sum_by-cons f x []
sum_by-insertion f before x (y ∷ ys) = grind (
  arith,
  sum_by-cons f x (y ∷ ys),
  sum_by-cons f y ys,
  sum_by-cons f y (insertion before x ys),
  sum_by-insertion f before x ys,
)

-- a filter that doesn't keep the element
pub filter-insertion_out : {X : Type 0} (p before : X → Bool) (x : X) (xs : List X) → p x ≡ false
    → filter p (insertion before x xs) ≡ filter p xs
filter-insertion_out p before x [] e = rw e refl
filter-insertion_out p before x (y ∷ ys) e = grind (arith, filter-insertion_out p before x ys e)

-- a search for another element
pub find-insertion_past : {X : Type 0} (p before : X → Bool) (x : X) (xs : List X) → p x ≡ false
    → find p (insertion before x xs) ≡ find p xs
find-insertion_past p before x [] e = rw e refl
find-insertion_past p before x (y ∷ ys) e = grind (arith, find-insertion_past p before x ys e)

-- a search for the element, where no other passes
pub find-insertion_here : {X : Type 0} (p before : X → Bool) (x : X) (xs : List X) → p x ≡ true
    → list_any p xs ≡ false → find p (insertion before x xs) ≡ Some x
find-insertion_here p before x [] e h = rw e refl
find-insertion_here p before x (y ∷ ys) e h = grind (arith, false≢true, find-insertion_here p before x ys e)

-- a filter that keeps the element
pub list_any-insertion_kept : {X : Type 0} (p q before : X → Bool) (x : X) (xs : List X) → p x ≡ true → q x ≡ true
    → list_any p (filter q (insertion before x xs)) ≡ true
list_any-insertion_kept p q before x [] e f = rw (f, e) refl
list_any-insertion_kept p q before x (y ∷ ys) e f = grind (arith, or_right, list_any-insertion_kept p q before x ys e)
