-- Lists whose elements are looked up by their places.
use Rattle.std.proofs.Common.{◌≡◌, ℕ, zero, suc, ◌<◌, ◌≤◌, ◌⊎◌, inl, inr, List, [], ◌∷◌, ◌++◌, length, take, get_or, slice_get, Some, refl, sym, ap, subst, arith}
use Rattle.std.specs.Prelude.{All}
use Rattle.std.proofs.lemmas.List.Elements.{All-get_or}
use Rattle.std.proofs.lemmas.Option.{slice_get_read, slice_get_within, get_or_from_slice_get}
use Rattle.history_check.specs.Queues.{Pairs}

module _ {X : Type 0} where
  pub nowhere : (i : ℕ) (x : X) → slice_get [] i ≡ Some x → ⊥
  nowhere i x at = cc

  pub some_same : (x y : X) → Some x ≡ Some y → x ≡ y
  some_same x y is = cc

  pub found : (xs : List X) (i : ℕ) → i < length xs → (x : X) × (slice_get xs i ≡ Some x)
  found [] i within = absurd (omega (arith, within))
  found (x ∷ xs) zero within = (x, refl)
  found (x ∷ xs) (suc i) within = found xs i (omega (arith, within))

  -- behind one element more
  pub get_push : (xs : List X) (y : X) (i : ℕ) (z : X) → slice_get (xs ++ y ∷ []) i ≡ Some z
      → (slice_get xs i ≡ Some z) ⊎ ((i ≡ length xs) × (z ≡ y))
  get_push [] y zero z at = let is : y ≡ z = cc in inr (refl, sym is)
  get_push [] y (suc i) z at = absurd cc
  get_push (x ∷ xs) y zero z at = inl at
  get_push (x ∷ xs) y (suc i) z at = elim (get_push xs y i z at) [
    | inl there ↦ inl there
    | inr last ↦ inr (ap suc last.0, last.1)
  ]

  -- among the first elements, so many
  pub get_taken : (xs : List X) (n k : ℕ) (x : X) → slice_get (take n xs) k ≡ Some x
      → (k < n) × (slice_get xs k ≡ Some x)
  get_taken xs zero k x at = absurd (nowhere k x at)
  get_taken [] (suc n) k x at = absurd cc
  get_taken (y ∷ xs) (suc n) zero x at = (omega arith, at)
  get_taken (y ∷ xs) (suc n) (suc k) x at =
      let rest = get_taken xs n k x at in let few : k < n = rest.0 in (omega (arith, few), rest.1)

  pub take_taken : (xs : List X) (n k : ℕ) → k ≤ n → take k (take n xs) ≡ take k xs
  take_taken xs n zero few = refl
  take_taken xs zero (suc k) few = absurd (omega (arith, few))
  take_taken [] (suc n) (suc k) few = refl
  take_taken (x ∷ xs) (suc n) (suc k) few = ap (λ (l : List X). x ∷ l) (take_taken xs n k (omega (arith, few)))

  pub each_of : (P : X → Type 0) (xs : List X) (i : ℕ) (x : X) → All P xs → slice_get xs i ≡ Some x → P x
  each_of P xs i x all at =
      subst P (get_or_from_slice_get xs i x x at) (All-get_or P xs i x (slice_get_within xs i x at) all)

  -- what is read at a place
  pub at_place : (xs ys : List X) (place n : ℕ) (x : X) → ys ≡ xs → place ≡ n → n < length xs → x ≡ get_or ys place x
      → slice_get xs n ≡ Some x
  at_place xs ys place n x same is within at = slice_get_read xs (length xs) n x refl within
      (subst (λ (m : ℕ). x ≡ get_or xs m x) is (subst (λ (l : List X). x ≡ get_or l place x) same at))

  -- two lists, one by one
  pub pairs_length : (over : X → X → Type 0) (olds news : List X) → Pairs over olds news → length news ≡ length olds
  pairs_length over [] [] pairs = refl
  pairs_length over [] (y ∷ ys) pairs = absurd pairs
  pairs_length over (x ∷ xs) [] pairs = absurd pairs
  pairs_length over (x ∷ xs) (y ∷ ys) pairs = ap suc (pairs_length over xs ys pairs.1)

  pub pair_at : (over : X → X → Type 0) (olds news : List X) (i : ℕ) (y : X) → Pairs over olds news
      → slice_get news i ≡ Some y → (x : X) × (slice_get olds i ≡ Some x) × over x y
  pair_at over [] [] i y pairs at = absurd (nowhere i y at)
  pair_at over [] (new ∷ news) i y pairs at = absurd pairs
  pair_at over (x ∷ xs) [] i y pairs at = absurd pairs
  pair_at over (x ∷ xs) (new ∷ news) zero y pairs at =
      let is : new ≡ y = cc in (x, refl, subst (λ (n : X). over x n) is pairs.0)
  pair_at over (x ∷ xs) (new ∷ news) (suc i) y pairs at = pair_at over xs news i y pairs.1 at
