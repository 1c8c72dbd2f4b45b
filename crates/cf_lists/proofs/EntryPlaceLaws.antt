-- Filters of a list with one more element in its place.
use Rattle.cf_lists.proofs.Imports.{arith, ◌≡◌, Bool, true, false, List, [], ◌∷◌, ◌++◌, filter, refl, list_all, and_parts, false≢true, insertion, pairwise}
use Rattle.cf_lists.proofs.FilterLaws.{filter_none, none_from_all, list_all_weaker}

-- a filter that keeps the element, where behind one that it doesn't stand behind nor is kept none is kept
pub filter-insertion_in : {X : Type 0} (r : X → X → Bool) (p b : X → Bool) (x : X) (ys : List X) → p x ≡ true
    → ((y z : X) → b y ≡ false → p y ≡ false → r y z ≡ true → p z ≡ false)
    → pairwise r ys ≡ true → filter p (insertion b x ys) ≡ insertion b x (filter p ys)
filter-insertion_in r p b x [] e past h = rw e refl
filter-insertion_in r p b x (y ∷ ys) e past h =
    grind (arith, and_parts, filter_none, none_from_all, list_all_weaker, filter-insertion_in r p b x ys e past)

-- a filter that keeps the element, and none that stands before it
pub filter-insertion_ahead : {X : Type 0} (p b : X → Bool) (x : X) (ys : List X) → p x ≡ true
    → ((y : X) → p y ≡ true → b y ≡ false) → filter p (insertion b x ys) ≡ x ∷ filter p ys
filter-insertion_ahead p b x [] e none = rw e refl
filter-insertion_ahead p b x (y ∷ ys) e none = grind (arith, false≢true, filter-insertion_ahead p b x ys e none)

-- behind all
pub insertion_behind : {X : Type 0} (b : X → Bool) (x : X) (ys : List X) → list_all b ys ≡ true
    → insertion b x ys ≡ ys ++ x ∷ []
insertion_behind b x [] h = refl
insertion_behind b x (y ∷ ys) h = grind (arith, and_parts, insertion_behind b x ys)

-- places that agree on what is kept
pub insertion_agree : {X : Type 0} (p b c : X → Bool) (x : X) (ys : List X) → list_all p ys ≡ true
    → ((y : X) → p y ≡ true → b y ≡ c y) → insertion b x ys ≡ insertion c x ys
insertion_agree p b c x [] h same = refl
insertion_agree p b c x (y ∷ ys) h same = grind (arith, and_parts, insertion_agree p b c x ys)
