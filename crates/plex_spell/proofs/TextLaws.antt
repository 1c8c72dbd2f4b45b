-- Texts of term characters, and where a byte stands in a text.
use Rattle.plex_spell.proofs.Imports.{same_from_all_zip, ◌≡◌, ℕ, ◌<◌, ◌≤◌, ◌+◌, ◌-◌, ◌==◌, Bool, true, false, not, cond, nat_lt, List, [], ◌∷◌, length, take, drop, Some, None, position, refl, arith, zero, suc, length-drop, length-append, ◌*◌, list_all, list_any, position_or_len, repeat, list_all-append, and_parts, and_from, nat_tests, take_all, length-take, IsTerm, term_byte, fault_at, fails_at_some, is_term}

pub characters-term : (word : List ℕ) → is_term word ≡ true → list_all term_byte word ≡ true
characters-term word h = grind arith

pub nonempty-term : (word : List ℕ) → is_term word ≡ true → 0 < length word
nonempty-term word h = grind arith

pub term_from : (word : List ℕ) → 0 < length word → list_all term_byte word ≡ true → is_term word ≡ true
term_from word h k = grind arith

list_all-take : (q : ℕ → Bool) (n : ℕ) (xs : List ℕ) → list_all q xs ≡ true → list_all q (take n xs) ≡ true
list_all-take q zero xs h = refl
list_all-take q (suc n) [] h = refl
list_all-take q (suc n) (x ∷ xs) h =
    let parts = and_parts (q x) (list_all q xs) h in grind (arith, and_from, list_all-take q n xs parts.1)

-- the front of such a text
pub IsTerm-take : (limit : ℕ) (word : List ℕ) → 0 < limit → is_term word ≡ true → IsTerm limit (take limit word)
IsTerm-take limit word some h = grind (arith, length-take, nonempty-term, list_all-take, characters-term)

pub IsTerm-whole : (limit : ℕ) (word : List ℕ) → length word ≤ limit → is_term word ≡ true → IsTerm limit word
IsTerm-whole limit word short h = grind (arith, nonempty-term, characters-term)

pub any-place : (p : ℕ → Bool) (xs : List ℕ) → list_any p xs ≡ nat_lt (position_or_len p xs) (length xs)
any-place p [] = refl
any-place p (x ∷ xs) = grind (arith, nat_tests, any-place p xs)

pub any-some : (p : ℕ → Bool) (xs : List ℕ) (i : ℕ) → position p xs ≡ Some i → (list_any p xs ≡ true)
    × (i ≡ position_or_len p xs)
any-some p xs i h = grind (arith, any-place)

pub any-none : (p : ℕ → Bool) (xs : List ℕ) → position p xs ≡ None → list_any p xs ≡ false
any-none p xs h = grind (arith, any-place)

pub rest_whole : (i : ℕ) (xs : List ℕ) → take (length xs - (i + 1)) (drop (i + 1) xs) ≡ drop (i + 1) xs
rest_whole i xs = take_all (length xs - (i + 1)) (drop (i + 1) xs) (omega (arith, length-drop (i + 1) xs))

-- a text of term characters has no fault
pub no_fault : (limit : ℕ) (text : List ℕ) (at : ℕ) → IsTerm limit text → fault_at text ≡ Some at → ⊥
no_fault limit text at term fault = at_empty (length text == 0) refl fault
  where
    at_empty : (b : Bool) → (length text == 0) ≡ b → cond b (Some 0) (position (λ c. not (term_byte c)) text) ≡ Some
        at → ⊥
    at_empty true none e = let empty : length text ≡ 0 = grind (arith, nat_tests) in omega (arith, term.nonempty)
    at_empty false some e = let fails = fails_at_some term_byte text at e in let passes = term.characters in cc

list_all-repeat : (q : ℕ → Bool) (n : ℕ) (xs : List ℕ) → list_all q xs ≡ true → list_all q (repeat n xs) ≡ true
list_all-repeat q zero xs h = refl
list_all-repeat q (suc n) xs h = grind (arith, list_all-append, and_from, list_all-repeat q n xs h)

pub length-repeat : (n : ℕ) (xs : List ℕ) → length (repeat n xs) ≡ n * length xs
length-repeat zero xs = grind arith
length-repeat (suc n) xs = omega (arith, length-append xs (repeat n xs), length-repeat n xs)

pub IsTerm-repeat : (limit n : ℕ) (word : List ℕ) → is_term word ≡ true → 0 < n → n * length word ≤ limit
    → IsTerm limit (repeat n word)
IsTerm-repeat limit n word h some short =
    grind (arith, length-repeat, list_all-repeat, characters-term, length-append, nonempty-term)

-- what the code that copies and cuts texts cites
pub ruleset copies_told = (same_from_all_zip, IsTerm-repeat)

pub ruleset cuts_told = (any-some, any-none, rest_whole)
