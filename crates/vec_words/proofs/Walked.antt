-- A list that a function is applied to place by place.
use Rattle.vec_words.proofs.Imports.{◌≡◌, ℕ, ◌+◌, ◌<◌, List, [], ◌∷◌, ◌++◌, map, length, drop, take, set, get_or, get_or-drop, drop-set-lt, drop-drop, length-set, sym, ap, ◌∙◌, subst, arith, All, take_more, take_more_set, map-append, All-push}

-- before the place the function was applied, from the place on it wasn't
pub record IsWalked {A : Type 0} (f : A → A) (now first : List A) (i : ℕ) : Type 0 where
  pub long : length now ≡ length first
  pub done : take i now ≡ map f (take i first)
  pub rest : drop i now ≡ drop i first

module _ {A : Type 0} where
  -- the element at the place is that of the first form
  walked-here : (f : A → A) (now first : List A) (i : ℕ) (d : A) → IsWalked f now first i
      → get_or now i d ≡ get_or first i d
  walked-here f now first i d walked =
      let z : i ≡ i + 0 = omega arith in
      ap (λ k. get_or now k d) z ∙ sym (get_or-drop i now 0 d) ∙ ap (λ l. get_or l 0 d) walked.rest
      ∙ get_or-drop i first 0 d ∙ ap (λ k. get_or first k d) (sym z)

  pub walked-step : (f : A → A) (now first : List A) (i : ℕ) (d y : A) → i < length now → y ≡ f (get_or now i d)
      → IsWalked f now first i → IsWalked f (set now i y) first (i + 1)
  walked-step f now first i d y inside new walked =
      let long : length now ≡ length first = walked.long in
      let here = walked-here f now first i d walked in
      record {
        long = length-set now i y ∙ walked.long;
        done = take_more_set now i y inside ∙ (λ k. walked.done k ++ (new ∙ ap f here) k ∷ []) ∙ sym
            (ap (map f) (take_more first i d (omega arith)) ∙ map-append f (take i first) (get_or first i d ∷ []));
        rest = drop-set-lt (i + 1) now i y (omega arith) ∙ sym (drop-drop 1 i now) ∙ ap (drop 1) walked.rest
            ∙ drop-drop 1 i first;
      }

  -- what holds of all elements of the first form holds of the one at the place
  pub walked-of : (P : A → Type 0) (f : A → A) (now first : List A) (i : ℕ) (d : A) → i < length now
      → IsWalked f now first i → All P first → P (get_or now i d)
  walked-of P f now first i d inside walked all =
      let long : length now ≡ length first = walked.long in
      subst P (sym (walked-here f now first i d walked)) (all i d (omega arith))

  -- what holds of the elements before the place and of this one holds before the next place
  pub walked-all : (P : A → Type 0) (f : A → A) (now first : List A) (i : ℕ) (d : A) → i < length now
      → IsWalked f now first i → All P (take i first) → P (get_or now i d) → All P (take (i + 1) first)
  walked-all P f now first i d inside walked all here =
      let long : length now ≡ length first = walked.long in
      subst (All P) (sym (take_more first i d (omega arith)))
      (All-push P (take i first) (get_or first i d) all (subst P (walked-here f now first i d walked) here))
