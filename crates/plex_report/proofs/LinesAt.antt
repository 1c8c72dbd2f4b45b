-- Which line stands where in lists of lines that follow each other.
use Rattle.plex_report.proofs.Imports.{◌≡◌, ℕ, add-one, ◌+◌, ◌<◌, ◌≤◌, zero, suc, List, [], ◌∷◌, ◌++◌, length, get_or, take, map, Option, Some, option_map, unwrap_or, append-nil, refl, sym, ap, ◌∙◌, arith, append_assoc, slice_get, sum_by, flat_map, option_map_or, sum_by-cons, length-map, slice_get-map, slice_get-get_or, slice_get_read, line_text, lines_each}

-- ---- lists

pub get_left : {X : Type 0} (xs ys : List X) (k : ℕ) → k < length xs → slice_get (xs ++ ys) k ≡ slice_get xs k
get_left [] ys k h = absurd (omega arith)
get_left (x ∷ xs) ys zero h = refl
get_left (x ∷ xs) ys (suc k) h = get_left xs ys k (omega arith)

pub get_right : {X : Type 0} (xs ys : List X) (k n : ℕ) → k ≡ length xs + n → slice_get (xs ++ ys) k ≡ slice_get ys n
get_right [] ys k n h = let e : k ≡ n = omega arith in ap (slice_get ys) e
get_right (x ∷ xs) ys zero n h = absurd (omega arith)
get_right (x ∷ xs) ys (suc k) n h = get_right xs ys k n (omega arith)

pub get_behind : {X : Type 0} (x : X) (xs : List X) (k n : ℕ) → k ≡ n + 1 → slice_get (x ∷ xs) k ≡ slice_get xs n
get_behind x xs zero n h = absurd (omega arith)
get_behind x xs (suc k) n h = let e : k ≡ n = omega arith in ap (slice_get xs) e

-- ---- sections

module _ {X : Type 0} (lines : ℕ → X → List (List ℕ)) (size : X → ℕ) (sized : (i : ℕ) (x : X)
    → length (lines i x) ≡ size x + 1) where
  -- a line of the i-th section
  pub get_within : (first : ℕ) (xs : List X) (rest : List (List ℕ)) (i k j : ℕ) (d : X)
      → i < length xs → k ≡ sum_by (λ x. size x + 1) (take i xs) + j → j ≤ size (get_or xs i d)
      → slice_get (lines_each lines first xs ++ rest) k ≡ slice_get (lines (first + i) (get_or xs i d)) j
  get_within first [] rest i k j d h e within = absurd (omega arith)
  get_within first (x ∷ xs) rest zero k j d h e within = grind (arith, append_assoc, get_left)
  get_within first (x ∷ xs) rest (suc i) k j d h e within =
      let len : length (lines first x) ≡ size x + 1 = sized first x in
      let n = sum_by (λ x. size x + 1) (take i xs) + j in
      let sum : sum_by (λ x. size x + 1) (x ∷ take i xs) ≡ size x + 1 + sum_by (λ x. size x + 1) (take i xs) =
      sum_by-cons (λ x. size x + 1) x (take i xs) in
      let at : first + 1 + i ≡ first + suc i = omega arith in
      ap (λ l. slice_get l k) (append_assoc (lines first x) (lines_each lines (first + 1) xs) rest)
      ∙ get_right (lines first x) (lines_each lines (first + 1) xs ++ rest) k n (omega arith) ∙ get_within
      (first + 1) xs rest i n j d (omega arith) refl within ∙ ap (λ m. slice_get (lines m (get_or xs i d)) j) at

  -- a line behind all sections
  pub get_after : (first : ℕ) (xs : List X) (rest : List (List ℕ)) (k n : ℕ)
      → k ≡ sum_by (λ x. size x + 1) xs + n → slice_get (lines_each lines first xs ++ rest) k ≡ slice_get rest n
  get_after first [] rest k n e = let same : k ≡ n = omega arith in ap (slice_get rest) same
  get_after first (x ∷ xs) rest k n e =
      let len : length (lines first x) ≡ size x + 1 = sized first x in
      let m = sum_by (λ x. size x + 1) xs + n in
      let sum : sum_by (λ x. size x + 1) (x ∷ xs) ≡ size x + 1 + sum_by (λ x. size x + 1) xs =
      sum_by-cons (λ x. size x + 1) x xs in
      ap (λ l. slice_get l k) (append_assoc (lines first x) (lines_each lines (first + 1) xs) rest)
      ∙ get_right (lines first x) (lines_each lines (first + 1) xs ++ rest) k m (omega arith)
      ∙ get_after (first + 1) xs rest m n refl

  -- a line of the section at a place
  pub get_spot : (xs : List X) (rest : List (List ℕ)) (i k j : ℕ) (x : X) → i < length xs
      → x ≡ get_or xs i x → k ≡ sum_by (λ x. size x + 1) (take i xs) + j → j ≤ option_map_or size (slice_get xs i) 0
      → slice_get (lines_each lines 0 xs ++ rest) k ≡ slice_get (lines i x) j
  get_spot xs rest i k j x h is e within =
      let at : 0 + i ≡ i = omega arith in
      let here : option_map_or size (slice_get xs i) 0 ≡ size (get_or xs i x) = grind (arith, slice_get-get_or) in
      get_within 0 xs rest i k j x h e (omega (arith, here, within))
      ∙ ap (λ m. slice_get (lines m (get_or xs i x)) j) at ∙ ap (λ y. slice_get (lines i y) j) (sym is)

-- ---- headings

module _ {X : Type 0} (f : X → List ℕ) (head : List ℕ) (xs : List X) where
  -- the line of an element stands behind the heading
  get_under : (k n : ℕ) (o : Option X)
      → k ≡ n + 1 → slice_get xs n ≡ o → slice_get (head ∷ map f xs) k ≡ option_map f o
  get_under k n o e at = get_behind head (map f xs) k n e ∙ slice_get-map f xs n ∙ ap (λ o. option_map f o) at

  pub get_read : (k n : ℕ) (x : X) → k ≡ n + 1 → n < length xs → x ≡ get_or xs n x
      → slice_get (head ∷ map f xs) k ≡ Some (f x)
  get_read k n x e h is = get_under k n (Some x) e (slice_get_read xs (length xs) n x refl h is)

  pub get_item : (k n : ℕ) (d : X)
      → k ≡ n + 1 → n < length xs → slice_get (head ∷ map f xs) k ≡ Some (f (get_or xs n d))
  get_item k n d e h = get_under k n (Some (get_or xs n d)) e (slice_get-get_or xs n d h)

  pub length-under : length (head ∷ map f xs) ≡ length xs + 1
  length-under = let len : length (map f xs) ≡ length xs = length-map xs f in omega arith

-- ---- the text

pub text_more : (lines : List (List ℕ)) (k : ℕ) (line : List ℕ) → slice_get (map line_text lines) k ≡ Some line
    → flat_map line_text (take (k + 1) lines) ≡ flat_map line_text (take k lines) ++ line
text_more lines k line h = rw add-one (one_more lines k line h)
  where
    one_more : (lines : List (List ℕ)) (k : ℕ) (line : List ℕ) → slice_get (map line_text lines) k ≡ Some line
        → flat_map line_text (take (suc k) lines) ≡ flat_map line_text (take k lines) ++ line
    one_more [] k line h = cc
    one_more (l ∷ ls) zero line h = append-nil (line_text l) ∙ ap (λ o. unwrap_or o []) h
    one_more (l ∷ ls) (suc k) line h = ap (λ t. line_text l ++ t) (one_more ls k line h)
        ∙ sym (append_assoc (line_text l) (flat_map line_text (take k ls)) line)
