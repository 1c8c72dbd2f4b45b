-- A list whose front a loop has changed, element by element.
use Rattle.std.proofs.Common.{◌≡◌, ℕ, zero, suc, ◌+◌, ◌<◌, ◌≤◌, List, [], ◌∷◌, ◌++◌, length, map, take, drop, slice_get, Some, refl, sym, ap, ◌∙◌, arith}
use Rattle.std.proofs.Common.{get_or, set, length-append}
use Rattle.std.proofs.lemmas.List.{get_or_default, length-take, length-drop, length-map}
use Rattle.std.proofs.lemmas.List.Edits.{map_over_more}

module _ {X : Type 0} (f : X → X) where
  -- nothing changes where each element stays
  pub map_same : (xs : List X) → ((i : ℕ) (x : X) → slice_get xs i ≡ Some x → f x ≡ x) → map f xs ≡ xs
  map_same [] same = refl
  map_same (x ∷ xs) same = ap (λ (y : X). y ∷ map f xs) (same 0 x refl)
      ∙ ap (λ (l : List X). x ∷ l) (map_same xs (λ i y e. same (suc i) y e))

  -- the first ones stay
  pub part_start : (xs : List X) (next : ℕ) → ((i : ℕ) (x : X) → i < next → slice_get xs i ≡ Some x → f x ≡ x)
      → xs ≡ map f (take next xs) ++ drop next xs
  part_start xs zero same = refl
  part_start [] (suc next) same = refl
  part_start (x ∷ xs) (suc next) same =
      sym (ap (λ (y : X). y ∷ (map f (take next xs) ++ drop next xs)) (same 0 x (omega arith) refl)
      ∙ ap (λ (l : List X). x ∷ l) (sym (part_start xs next (λ i y less e. same (suc i) y (omega (arith, less)) e))))

  -- those that are left stay
  pub part_left : (xs : List X) (next : ℕ) → ((i : ℕ) (x : X) → next ≤ i → slice_get xs i ≡ Some x → f x ≡ x)
      → map f (take next xs) ++ drop next xs ≡ map f xs
  part_left xs zero same = sym (map_same xs (λ i x e. same i x (omega arith) e))
  part_left [] (suc next) same = refl
  part_left (x ∷ xs) (suc next) same =
      ap (λ (l : List X). f x ∷ l) (part_left xs next (λ i y past e. same (suc i) y (omega (arith, past)) e))

  -- what stands at the place to which the loop has come
  read_at : (xs : List X) (k : ℕ) (d : X) → k < length xs → get_or (map f (take k xs) ++ drop k xs) k d ≡ get_or xs k d
  read_at [] k d within = absurd (omega (arith, within))
  read_at (x ∷ xs) zero d within = refl
  read_at (x ∷ xs) (suc k) d within = read_at xs k d (omega (arith, within))

  pub part_read : (xs now : List X) (k : ℕ) (d : X) → now ≡ map f (take k xs) ++ drop k xs → k < length xs
      → get_or now k d ≡ get_or xs k d
  part_read xs now k d is within = ap (λ (l : List X). get_or l k d) is ∙ read_at xs k d within

  pub part_long : (xs now : List X) (k : ℕ) → now ≡ map f (take k xs) ++ drop k xs → k < length xs
      → length now ≡ length xs
  part_long xs now k is within = grind (arith, length-append, length-map, length-take, length-drop)

  -- one element more
  pub part_step : (xs now : List X) (k : ℕ) (d y : X) → now ≡ map f (take k xs) ++ drop k xs → k < length xs
      → y ≡ f (get_or now k d) → set now k y ≡ map f (take (k + 1) xs) ++ drop (k + 1) xs
  part_step xs now k d y is within made =
      let long = part_long xs now k is within in
      let inside : k < length now = omega (arith, long, within) in
      ap (λ (z : X). set now k z) made
      ∙ map_over_more f xs now k (get_or now k d) within is (get_or_default now k d (get_or now k d) inside)
