-- Keys that stand in the orders of headers.
use Rattle.cf_lists.proofs.Imports.{◌≡◌, ◌≢◌, ◌⊎◌, inl, inr, ℕ, ◌+◌, ◌<◌, Bool, true, ◌==◌, List, [], ◌∷◌, length, map, take, drop, set, slice_get, get_or, Some, refl, sym, ap, ◌∙◌, arith, suc, zero, list_any, insert, remove, or_right, false≢true, eq-eqb, eqb-true, eqb_tells, take-append-drop, list_any-append, records_of, all_records, stands, or_cases, or_left, cases_Bool}
use Rattle.std.proofs.Common.{get_or-set_same, get_or-set_other}
use Rattle.cf_lists.proofs.RecordSpotLaws.{any_at, header_within}
use Rattle.cf_lists.proofs.{TakeLaws.split_next, AllLaws.list_of-get_or}

-- ---- one list

-- a passing element is at some place
pub place_any : {X : Type 0} (q : X → Bool) (xs : List X) → list_any q xs ≡ true
    → (p : ℕ) × (x : X) × (slice_get xs p ≡ Some x) × (q x ≡ true)
place_any q [] h = absurd (false≢true h)
place_any {X} q (x ∷ xs) h = elim (or_cases (q x) (list_any q xs) h) [
  | inl e ↦ (zero, x, refl, e)
  | inr e ↦ let later = place_any q xs e in (suc later.0, later.1, later.2, later.3)
]

inserted_old : (xs : List ℕ) (p key other : ℕ) → list_any (λ k. k == other) xs ≡ true
    → list_any (λ k. k == other) (insert xs p key) ≡ true
inserted_old xs p key other h =
    let q : ℕ → Bool = λ k. k == other in
    let halves = list_any-append q (take p xs) (drop p xs) in
    let whole = list_any-append q (take p xs) (key ∷ drop p xs) in
    grind (arith, halves, whole, take-append-drop p xs, or_cases, or_left, or_right)

inserted_either : (xs : List ℕ) (p key other : ℕ) → list_any (λ k. k == other) (insert xs p key) ≡ true
    → (other ≡ key) ⊎ (list_any (λ k. k == other) xs ≡ true)
inserted_either xs p key other h =
    let q : ℕ → Bool = λ k. k == other in
    let halves = list_any-append q (take p xs) (drop p xs) in
    let whole = list_any-append q (take p xs) (key ∷ drop p xs) in
    grind (arith, halves, whole, take-append-drop p xs, or_cases, eqb-true, or_left, or_right)

removed_old : (xs : List ℕ) (p key other : ℕ) → slice_get xs p ≡ Some key
    → other ≢ key → list_any (λ k. k == other) xs ≡ true → list_any (λ k. k == other) (remove xs p) ≡ true
removed_old xs p key other at ne h =
    let q : ℕ → Bool = λ k. k == other in
    let on : p + 1 ≡ suc p = omega arith in
    let left = list_any-append q (take p xs) (drop (suc p) xs) in
    let all = ap (list_any q) (split_next xs p key at) ∙ list_any-append q (take p xs) (key ∷ drop (p + 1) xs) in
    grind (arith, left, all, eqb-true, cases_Bool (list_any q (take p xs)), cases_Bool (key == other))

removed_back : (xs : List ℕ) (p key other : ℕ) → slice_get xs p ≡ Some key
    → list_any (λ k. k == other) (remove xs p) ≡ true → list_any (λ k. k == other) xs ≡ true
removed_back xs p key other at h =
    let q : ℕ → Bool = λ k. k == other in
    let on : p + 1 ≡ suc p = omega arith in
    let left = list_any-append q (take p xs) (drop (suc p) xs) in
    let all = ap (list_any q) (split_next xs p key at) ∙ list_any-append q (take p xs) (key ∷ drop (p + 1) xs) in
    grind (arith, left, all, cases_Bool (list_any q (take p xs)), cases_Bool (key == other))

-- ---- all orders

-- the order of a header, changed where that keeps a key
changed : (orders : List (List ℕ)) (h : ℕ) (new : List ℕ) (h' key : ℕ) → h < length orders
    → (list_any (λ k. k == key) (get_or orders h []) ≡ true → list_any (λ k. k == key) new ≡ true)
    → stands orders h' key ≡ true → stands (set orders h new) h' key ≡ true
changed orders h new h' key lt keeps st = grind (arith, eqb_tells, get_or-set_same, get_or-set_other)

unchanged : (orders : List (List ℕ)) (h : ℕ) (new : List ℕ) (h' key : ℕ) → h < length orders → stands (set
    orders h new) h' key ≡ true → ((h' ≡ h) × (list_any (λ k. k == key) new ≡ true)) ⊎ (stands orders h' key ≡ true)
unchanged orders h new h' key lt st = grind (arith, eqb_tells, get_or-set_same, get_or-set_other)

module _ (orders : List (List ℕ)) (h p key : ℕ) (lt : h < length orders) where
  pub stands_new : stands (set orders h (insert (records_of orders h) p key)) h key ≡ true
  stands_new = grind (arith, get_or-set_same, eq-eqb, list_any-append, or_right, or_left)

  pub stands_more : (h' other : ℕ) → stands orders h' other ≡ true
      → stands (set orders h (insert (records_of orders h) p key)) h' other ≡ true
  stands_more h' other = grind (arith, changed, inserted_old, list_of-get_or)

  pub stands_either : (h' other : ℕ) → stands (set orders h (insert (records_of orders h) p key)) h' other ≡ true
      → ((h' ≡ h) × (other ≡ key)) ⊎ (stands orders h' other ≡ true)
  stands_either h' other st = grind (arith, unchanged, inserted_either, list_of-get_or)

module _ (orders : List (List ℕ)) (h p key : ℕ) (at : slice_get (records_of orders h) p ≡ Some key) where
  within : h < length orders
  within = header_within orders h p key at

  pub stands_at : stands orders h key ≡ true
  stands_at = grind (arith, list_of-get_or, any_at, eq-eqb)

  pub stands_still : (h' other : ℕ) → other ≢ key → stands orders h' other ≡ true
      → stands (set orders h (remove (records_of orders h) p)) h' other ≡ true
  stands_still h' other ne = changed orders h (remove (records_of orders h) p) h' other within (λ e. removed_old
      (records_of orders h) p key other at ne (ap (list_any (λ k. k == other)) (list_of-get_or orders h) ∙ e))

  pub stands_before : (h' other : ℕ) → stands (set orders h (remove (records_of orders h) p)) h' other ≡ true
      → stands orders h' other ≡ true
  stands_before h' other st = grind (arith, unchanged, within, list_of-get_or, removed_back)

-- a key that stands has a place
pub place_stands : (orders : List (List ℕ)) (h key : ℕ) → stands orders h key ≡ true
    → (p : ℕ) × (slice_get (records_of orders h) p ≡ Some key)
place_stands orders h key st = grind (arith, place_any, list_of-get_or, eqb-true)

-- maps that agree on all keys that stand
agree_one : {X : Type 0} (f g : ℕ → X) (xs : List ℕ) → ((k : ℕ) → list_any (λ j. j == k) xs ≡ true → f k ≡ g k)
    → map f xs ≡ map g xs
agree_one f g [] h = refl
agree_one {X} f g (x ∷ xs) h =
    grind (arith, or_left, eq-eqb, or_right, agree_one f g xs (λ k e. h k (or_right _ (list_any (λ j. j == k) xs) e)))

pub agree : {X : Type 0} (f g : ℕ → X) (orders : List (List ℕ)) → ((h k : ℕ) → stands orders h k ≡ true → f k ≡ g k)
    → map (map f) orders ≡ map (map g) orders
agree f g [] h = refl
agree {X} f g (o ∷ os) h = cc (agree_one f g o (λ k e. h zero k e), agree f g os (λ i k e. h (suc i) k e))

one_stands : {X : Type 0} (f : ℕ → X) (q : X → Bool) (xs : List ℕ) (key : ℕ)
    → list_any (λ j. j == key) xs ≡ true → q (f key) ≡ true → list_any q (map f xs) ≡ true
one_stands f q [] key e t = absurd (false≢true e)
one_stands f q (x ∷ xs) key e t = grind (arith, or_cases, or_left, eqb-true, or_right, one_stands f q xs key)

-- what passes for a key that stands, passes among all records
pub any_stands : {X : Type 0} (f : ℕ → X) (q : X → Bool) (orders : List (List ℕ)) (h key : ℕ)
    → stands orders h key ≡ true → q (f key) ≡ true → list_any q (all_records (map (map f) orders)) ≡ true
any_stands f q [] h key st t = absurd (false≢true st)
any_stands f q (o ∷ os) zero key st t = grind (arith, list_any-append, or_left, one_stands)
any_stands f q (o ∷ os) (suc h) key st t = grind (arith, list_any-append, or_right, any_stands f q os h key st t)

-- where one passes among all records, its key stands
any_one : {X : Type 0} (f : ℕ → X) (q : X → Bool) (xs : List ℕ) → list_any q (map f xs) ≡ true
    → (k : ℕ) × (list_any (λ j. j == k) xs ≡ true) × (q (f k) ≡ true)
any_one f q [] e = absurd (false≢true e)
any_one f q (x ∷ xs) e = grind (arith, or_cases, or_left, eq-eqb, or_right, any_one f q xs)

pub any_key : {X : Type 0} (f : ℕ → X) (q : X → Bool) (orders : List (List ℕ)) → list_any
    q (all_records (map (map f) orders)) ≡ true → (h : ℕ) × (k : ℕ) × (stands orders h k ≡ true) × (q (f k) ≡ true)
any_key f q [] e = absurd (false≢true e)
any_key {X} f q (o ∷ os) e = elim (or_cases (list_any q (map f o)) (list_any q (all_records (map (map f) os)))
    (sym (list_any-append q (map f o) (all_records (map (map f) os))) ∙ e)) [
      | inl i ↦ let one = any_one f q o i in (zero, one.0, one.1, one.2)
      | inr i ↦ let later = any_key f q os i in (suc later.0, later.1, later.2, later.3)
    ]

twice_one : {X Y : Type 0} (f : ℕ → X) (g : X → Y) (xs : List ℕ) → map (λ k. g (f k)) xs ≡ map g (map f xs)
twice_one f g [] = refl
twice_one f g (x ∷ xs) = cc (twice_one f g xs)

pub twice : {X Y : Type 0} (f : ℕ → X) (g : X → Y) (orders : List (List ℕ))
    → map (map (λ k. g (f k))) orders ≡ map (map g) (map (map f) orders)
twice f g [] = refl
twice f g (o ∷ os) = cc (twice_one f g o, twice f g os)
