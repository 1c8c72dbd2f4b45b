-- A map in place, an element at a time.
use Rattle.cf_lists.proofs.Imports.{◌≡◌, ℕ, ◌+◌, ◌<◌, List, ◌∷◌, [], ◌++◌, length, length-drop, take, drop, set, suc, drop-cons, map, get_or, sym, ap, ◌∙◌, arith, take_more, take_more_set, map-append, drop-set-lt}

-- the elements so far are mapped, and the others stay
pub mapped_more : {X : Type 0} (f : X → X) (xs ys : List X) (i : ℕ) (x y : X)
    → i < length ys → y ≡ f (get_or ys i x) → take i ys ≡ map f (take i xs) → drop i ys ≡ drop i xs
    → (take (i + 1) (set ys i y) ≡ map f (take (i + 1) xs)) × (drop (i + 1) (set ys i y) ≡ drop (i + 1) xs)
mapped_more f xs ys i x y within is front back =
    let long : i < length xs = omega (arith, ap length back, length-drop i ys, length-drop i xs) in
    let ends = sym (drop-cons ys i x within) ∙ back ∙ drop-cons xs i x long in
    let image : y ≡ f (get_or xs i x) = is ∙ ap (λ l. f (get_or l 0 x)) ends in
    let next : i + 1 ≡ suc i = omega arith in (
      take_more_set ys i y within ∙ (λ j. front j ++ image j ∷ []) ∙ sym
          (ap (map f) (take_more xs i x long) ∙ map-append f (take i xs) (get_or xs i x ∷ [])),
      rw next (drop-set-lt (suc i) ys i y (omega arith) ∙ ap (drop 1) ends),
    )
