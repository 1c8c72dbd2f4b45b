-- Texts that are the same, from their fronts on.
use Rattle.run_laws.proofs.Imports.{append-nil, ◌≡◌, ℕ, ◌≤◌, ◌<◌, ◌==◌, ◌^◌, Bool, true, not, List, [], ◌∷◌, ◌++◌, length, refl, arith, append_assoc, length-append, is_ascii_digit, decimal, list_all, flat_map, and_parts, and_from, nat_tests, decimal_injective, flat_map-append, append_cancel_left, is_numeral, numeral-decimal, heading, line_text, lines_each, slice_get, Some, suc, ◌+◌, same_cut}

-- the byte doesn't stand in the text
abbrev pub is_free : ℕ → List ℕ → Bool
is_free at text = list_all (λ b. not (b == at)) text

-- ---- numbers

free_digit : (at b : ℕ) → at < 48 → is_ascii_digit b ≡ true → not (b == at) ≡ true
free_digit at b low h = grind (arith, nat_tests)

free_digits : (at : ℕ) (bs : List ℕ) → at < 48 → list_all is_ascii_digit bs ≡ true → is_free at bs ≡ true
free_digits at [] low h = refl
free_digits at (b ∷ bs) low h = grind (arith, and_parts, and_from, free_digit, free_digits at bs low)

free_numeral : (at : ℕ) (word : List ℕ) → at < 48 → is_numeral word ≡ true → is_free at word ≡ true
free_numeral at [] low h = refl
free_numeral at _ low h = grind (arith, free_digits, free_digit, and_parts)

pub free_decimal : (at n : ℕ) → at < 48 → n < 2 ^ 64 → is_free at (decimal n) ≡ true
free_decimal at n low small = free_numeral at (decimal n) low (numeral-decimal n small)

-- two numbers with the same byte behind them are one
pub same_number : (at m n : ℕ) (xs ys : List ℕ) → at < 48 → m < 2 ^ 64 → n < 2 ^ 64
    → decimal m ++ at ∷ xs ≡ decimal n ++ at ∷ ys → (m ≡ n) × (xs ≡ ys)
same_number at m n xs ys low small_m small_n e =
    let parts = same_cut at (decimal m) xs (decimal n) ys (free_decimal at m low small_m)
    (free_decimal at n low small_n) e in
    (decimal_injective m n small_m small_n parts.0, parts.1)

-- ---- lines

abbrev pub text_of : List (List ℕ) → List ℕ
text_of lines = flat_map line_text lines

pub text-append : (xs ys : List (List ℕ)) → text_of (xs ++ ys) ≡ text_of xs ++ text_of ys
text-append xs ys = flat_map-append line_text xs ys

pub text-cons : (line : List ℕ) (lines : List (List ℕ)) → text_of (line ∷ lines) ≡ line ++ 10 ∷ text_of lines
text-cons line lines = append_assoc line (10 ∷ []) (text_of lines)

-- a text has a byte for each line at least
pub text-long : (lines : List (List ℕ)) → length lines ≤ length (text_of lines)
text-long [] = omega arith
text-long (line ∷ lines) = grind (arith, length-append, text-long lines)

-- behind lines that are the same
pub same_behind : (front xs ys : List (List ℕ)) → text_of (front ++ xs) ≡ text_of (front ++ ys)
    → text_of xs ≡ text_of ys
same_behind front xs ys e = grind (arith, append_cancel_left, text-append)

-- lines that are told in other words
pub texts : (a b x y : List ℕ) (xs ys : List (List ℕ)) → x ≡ a → y ≡ b → text_of (x ∷ xs) ≡ text_of (y ∷ ys)
    → a ++ 10 ∷ text_of xs ≡ b ++ 10 ∷ text_of ys
texts a b x y xs ys is is' e = grind (arith, text-cons)

-- numbers behind one front are one
pub same_end : (front : List ℕ) (m n : ℕ) (xs ys : List ℕ) → m < 2 ^ 64 → n < 2 ^ 64
    → (front ++ decimal m) ++ 10 ∷ xs ≡ (front ++ decimal n) ++ 10 ∷ ys → (m ≡ n) × (xs ≡ ys)
same_end front m n xs ys small_m small_n e = grind (arith, same_number, append_cancel_left, append_assoc)

-- three words, the last of them set apart
pub one_word : (s t a : List ℕ) → s ++ ((32 ∷ t) ++ ((32 ∷ a) ++ [])) ≡ (s ++ ((32 ∷ t) ++ 32 ∷ [])) ++ a
one_word s t a = grind (arith, append_assoc, append-nil)

-- headings of one word and one name tell the same number
pub same_heading : (word name : List ℕ) (m n : ℕ) (xs ys : List (List ℕ)) → m < 2 ^ 64 → n < 2 ^ 64
    → text_of (heading word name m ∷ xs) ≡ text_of (heading word name n ∷ ys) → (m ≡ n) × (text_of xs ≡ text_of ys)
same_heading word name m n xs ys small_m small_n e = same_end
    (word ++ ((32 ∷ name) ++ 32 ∷ [])) m n (text_of xs) (text_of ys) small_m small_n (grind (arith, texts, one_word))

-- ---- lines of elements one after another

-- where the lines of an element fix it and what is behind them
module _ {X : Type 0} (f : ℕ → X → List (List ℕ)) (Right : ℕ → X → Type 0)
    (fixes : (n : ℕ) (a b : X) (xs ys : List (List ℕ)) → Right n a → Right n b
    → text_of (f n a ++ xs) ≡ text_of (f n b ++ ys) → (a ≡ b) × (text_of xs ≡ text_of ys)) where
  -- each is right at its place, counted from a number on
  abbrev AreRight : ℕ → List X → Type 0
  AreRight n xs = (j k : ℕ) (x : X) → slice_get xs k ≡ Some x → n + k ≡ j → Right j x

  each_same : (n : ℕ) (one other : List X) (xs ys : List (List ℕ)) → length one ≡ length other → AreRight n one
      → AreRight n other → text_of (lines_each f n one ++ xs) ≡ text_of (lines_each f n other ++ ys)
      → (one ≡ other) × (text_of xs ≡ text_of ys)
  each_same n [] [] xs ys same right right' e = (refl, e)
  each_same n (a ∷ one) (b ∷ other) xs ys same right right' e =
      let first = fixes n a b (lines_each f (n + 1) one ++ xs) (lines_each f (n + 1) other ++ ys)
      (right n 0 a refl (omega arith)) (right' n 0 b refl (omega arith)) (grind (arith, append_assoc)) in
      let behind = each_same (n + 1) one other xs ys (omega (arith, same)) (λ j k x there is. right j
      (suc k) x there (omega (arith, is))) (λ j k x there is. right' j (suc k) x there (omega (arith, is))) first.1 in
      let here : a ≡ b = first.0 in
      let rest : one ≡ other = behind.0 in
      (cc, behind.1)
  each_same n _ _ xs ys same right right' e = absurd (omega (arith, same))

  pub all_same : (one other : List X) (xs ys : List (List ℕ)) → length one ≡ length other → ((n : ℕ) (x : X)
      → slice_get one n ≡ Some x → Right n x) → ((n : ℕ) (x : X) → slice_get other n ≡ Some x → Right n x) → text_of
      (lines_each f 0 one ++ xs) ≡ text_of (lines_each f 0 other ++ ys) → (one ≡ other) × (text_of xs ≡ text_of ys)
  all_same one other xs ys same right right' = each_same 0 one other xs ys same
      (λ j k x there is. right j x (grind arith)) (λ j k x there is. right' j x (grind arith))
