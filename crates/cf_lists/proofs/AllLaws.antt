-- Lists of lists: all records, one list replaced, the last record gone.
use Rattle.cf_lists.proofs.Imports.{◌≡◌, ℕ, ◌-◌, ◌<◌, Bool, true, false, not, ◌&&◌, List, [], ◌∷◌, ◌++◌, length, map, filter, get_or, take, drop, set, position, Option, Some, None, is_some, refl, ap, arith, suc, zero, list_any, list_all, position_or_len, option_or, and_parts, and_from, false≢true, append_assoc, map-append, length-map, length-append, nil_from_length, take_all, list_any-append, list_all-append, filter-append, pairwise, records_of, all_records, IsLastFull, unwrap_or-slice_get, lists_with, take-append-drop}
use Rattle.cf_lists.proofs.FilterLaws.{none_from_all, list_all_weaker}

module _ {X : Type 0} where
  -- the records of a header
  abbrev pub list_of : ℕ → List (List X) → List X
  list_of header lists = records_of lists header

  pub list_of-get_or : (lists : List (List X)) (h : ℕ) → list_of h lists ≡ get_or lists h []
  list_of-get_or lists h = unwrap_or-slice_get lists h []

  position_or_len-map : {Y : Type 0} (p : Y → Bool) (f : X → Y) (xs : List X)
      → position_or_len p (map f xs) ≡ position_or_len (λ x. p (f x)) xs
  position_or_len-map p f [] = refl
  position_or_len-map p f (x ∷ xs) = rw (position_or_len-map p f xs) refl

  pub position-map : {Y : Type 0} (p : Y → Bool) (f : X → Y) (xs : List X)
      → position p (map f xs) ≡ position (λ x. p (f x)) xs
  position-map p f xs = grind (arith, position_or_len-map, length-map)

  -- where one passes, no later one does
  pub none_behind : (relation : X → X → Bool) (p : X → Bool)
      → ((x y : X) → p x ≡ true → relation x y ≡ true → not (p y) ≡ true)
      → (xs ys : List X) → pairwise relation (xs ++ ys) ≡ true → list_any p xs ≡ true → list_any p ys ≡ false
  none_behind relation p once [] ys h e = absurd (false≢true e)
  none_behind relation p once (x ∷ xs) ys h e =
      grind (arith, and_parts, none_from_all, list_all_weaker, list_all-append, none_behind relation p once xs ys)

  pub any_all : (p : X → Bool) (lists : List (List X)) → list_any p (all_records lists) ≡ list_any
      (λ recs. list_any p recs) lists
  any_all p [] = refl
  any_all p (recs ∷ lists) = grind (arith, list_any-append, any_all p lists)

  -- the record with the id is what stands at its place
  pub option_left : (o z : Option X) → is_some o ≡ true → option_or o z ≡ o
  option_left None z e = absurd (false≢true e)
  option_left (Some x) z e = refl

  pub all-filter : (p : X → Bool) (lists : List (List X)) → all_records (map (λ recs. filter p recs) lists) ≡ filter
      p (all_records lists)
  all-filter p [] = refl
  all-filter p (recs ∷ lists) = grind (arith, filter-append, all-filter p lists)

  -- one more in the middle
  pub pairwise_middle : (relation : X → X → Bool) (xs ys : List X) (z : X) → pairwise relation (xs ++ ys) ≡ true
      → list_all (λ x. relation z x && relation x z) (xs ++ ys) ≡ true → pairwise relation (xs ++ z ∷ ys) ≡ true
  pairwise_middle relation [] ys z h e = grind (arith, and_from, list_all_weaker, and_parts)
  pairwise_middle relation (x ∷ xs) ys z h e =
      grind (arith, and_parts, list_all-append, and_from, pairwise_middle relation xs ys z)

  -- where a list is replaced, the records before and behind it stay
  pub all-set : (lists : List (List X)) (h : ℕ) (recs : List X) → h < length lists
      → all_records (set lists h recs) ≡ all_records (take h lists) ++ (recs ++ all_records (drop (suc h) lists))
  all-set [] h recs lt = absurd (omega (arith, lt))
  all-set (l ∷ lists) zero recs lt = refl
  all-set (l ∷ lists) (suc h) recs lt = grind (arith, append_assoc, all-set lists h recs (omega (arith, lt)))

  pub all-split : (lists : List (List X)) (h : ℕ) → h < length lists
      → all_records lists ≡ all_records (take h lists) ++ (list_of h lists ++ all_records (drop (suc h) lists))
  all-split [] h lt = absurd (omega (arith, lt))
  all-split (l ∷ lists) zero lt = refl
  all-split (l ∷ lists) (suc h) lt = grind (arith, append_assoc, all-split lists h (omega (arith, lt)))

  -- one record more
  pub all_with : (h p : ℕ) (rec : X) (lists : List (List X)) → h < length lists → (front : List X) × (back : List X)
      × (all_records lists ≡ front ++ back) × (all_records (lists_with h p rec lists) ≡ front ++ rec ∷ back)
  all_with h p rec lists lt =
      let recs = records_of lists h in
      let front = all_records (take h lists) in
      let back = all_records (drop (suc h) lists) in (
        front ++ take p recs,
        drop p recs ++ back,
        grind (arith, all-split lists h lt, take-append-drop p recs, append_assoc),
        grind (arith, all-set, append_assoc),
      )

  pub pairwise_back : (relation : X → X → Bool) (xs ys : List X) → pairwise relation (xs ++ ys) ≡ true
      → pairwise relation ys ≡ true
  pairwise_back relation [] ys h = h
  pairwise_back relation (x ∷ xs) ys h =
      pairwise_back relation xs ys (and_parts (list_all (relation x) (xs ++ ys)) _ h).1

  -- the first n records, by header and place
  abbrev pub first_records : ℕ → List (List X) → List (List X)
  first_records n [] = []
  first_records n (recs ∷ lists) = take n recs ∷ first_records (n - length recs) lists

  pub none-first : (lists : List (List X)) → all_records lists ≡ [] → first_records 0 lists ≡ lists
  none-first [] e = refl
  none-first (recs ∷ lists) e = grind (arith, ap length e, length-append, nil_from_length, none-first lists)

  pub popped : (lists : List (List X)) (h : ℕ) → IsLastFull h lists → set lists
      h (take (length (list_of h lists) - 1) (list_of h lists)) ≡ first_records (length (all_records lists) - 1) lists
  popped [] h is = absurd (omega (arith, is.within))
  popped (recs ∷ lists) zero is = grind (arith, length-append, none-first)
  popped (recs ∷ lists) (suc h) is =
      let rest : IsLastFull h lists = record { within = omega (arith, is.within); full = is.full; last = is.last } in
      grind (arith, is.full, all-split lists h (omega (arith, is.within)), length-append, take_all, popped lists h rest)

module _ {X Y : Type 0} (f : X → Y) where
  pub all-map : (lists : List (List X)) → all_records (map (map f) lists) ≡ map f (all_records lists)
  all-map [] = refl
  all-map (recs ∷ lists) = grind (arith, map-append, all-map lists)
