-- Reading a text line by line.
use Rattle.plex_script.proofs.Imports.{◌≡◌, ◌≢◌, ℕ, ◌<◌, ◌+◌, ◌-◌, ◌==◌, Bool, true, false, min, List, [], ◌∷◌, ◌++◌, length, get_or, take, drop, Some, None, position, refl, ◌∙◌, arith, zero, suc, append_assoc, length-append, slice_split, list_any, or_parts, nat_tests, slice_split_first, without_return, lines_in, lines_of, any-some, any-none, any-place, rest_whole, Script, empty_script, Adds, AddsAll, line_number, nonempty}

-- ---- carriage returns

pub return-yes : (line : List ℕ) (n : ℕ) → length line ≡ suc n → get_or line n 0 ≡ 13 → without_return line ≡ take n
    line
return-yes [] n e h = grind arith
return-yes (b ∷ []) n e h = grind arith
return-yes (b ∷ c ∷ bs) zero e h = grind arith
return-yes (b ∷ c ∷ bs) (suc n) e h = grind (arith, return-yes (c ∷ bs) n)

pub return-no : (line : List ℕ) (n : ℕ) → length line ≡ suc n → get_or line n 0 ≢ 13 → without_return line ≡ line
return-no [] n e h = refl
return-no (b ∷ []) n e h = grind (arith, nat_tests)
return-no (b ∷ c ∷ bs) zero e h = grind arith
return-no (b ∷ c ∷ bs) (suc n) e h = grind (arith, return-no (c ∷ bs) n)

-- ---- line feeds

split_cons : (p : ℕ → Bool) (xs : List ℕ) → (y : List ℕ) × (ys : List (List ℕ)) × (slice_split p xs ≡ y ∷ ys)
split_cons p [] = ([], [], refl)
split_cons p (x ∷ xs) = at_test (p x) refl (split_cons p xs)
  where
    at_test : (b : Bool) → p x ≡ b → ((y : List ℕ) × (ys : List (List ℕ)) × (slice_split p xs ≡ y ∷ ys))
        → (y : List ℕ) × (ys : List (List ℕ)) × (slice_split p (x ∷ xs) ≡ y ∷ ys)
    at_test true e more = ([], slice_split p xs, rw e refl)
    at_test false e more = (x ∷ more.0, more.1, rw (e, more.2) refl)

lines_in-more : (part : List ℕ) (p : ℕ → Bool) (xs : List ℕ) → lines_in (part ∷ slice_split p xs) ≡ without_return
    part ∷ lines_in (slice_split p xs)
lines_in-more part p xs = let more = split_cons p xs in rw more.2 refl

pub lines-feed : (text : List ℕ) (place : ℕ) → position (λ b. b == 10) text ≡ Some place
    → lines_of text ≡ without_return (take place text) ∷ lines_of (drop (place + 1) text)
lines-feed text place h = grind (arith, any-some, any-place, nat_tests, slice_split_first, lines_in-more)

split_free : (p : ℕ → Bool) (xs : List ℕ) → list_any p xs ≡ false → slice_split p xs ≡ xs ∷ []
split_free p [] h = refl
split_free p (x ∷ xs) h = let parts = or_parts (p x) (list_any p xs) h in rw (parts.0, split_free p xs parts.1) refl

pub lines-last : (text : List ℕ) → 0 < length text → position (λ b. b == 10) text ≡ None → lines_of text ≡ text ∷ []
lines-last text some h = grind (arith, split_free, any-none, nonempty)

-- ---- line after line

pub AddsAll-more : (script : Script) (count : ℕ) (front : List (List ℕ)) (mid : Script) (line : List ℕ)
    (next : Script) → AddsAll script count front mid
    → Adds mid (line_number (count + length front + 1)) line next → AddsAll script count (front ++ line ∷ []) next
AddsAll-more script count [] mid line next h k = grind arith
AddsAll-more script count (l ∷ front) mid line next h k =
    let n : count + length (l ∷ front) + 1 ≡ count + 1 + length front + 1 = omega arith in
    (h.0, h.1, AddsAll-more h.0 (count + 1) front mid line next h.2 (rw n at k))

-- these lines are read, and this text is left
pub record IsRead (text : List ℕ) (script : Script) (number : ℕ) (rest : List ℕ) : Type 0 where
  pub front : List (List ℕ)
  pub whole : lines_of text ≡ front ++ lines_of rest
  pub count : number ≡ line_number (length front)
  pub fine : AddsAll empty_script 0 front script

next_number : (n : ℕ) → min (min n 4294967295 + 1) 4294967295 ≡ min (n + 1) 4294967295
next_number n = omega arith

pub IsRead-more : (text : List ℕ) (script : Script) (number : ℕ) (rest line more : List ℕ) (next : Script) (after : ℕ)
    → IsRead text script number rest → lines_of rest ≡ line ∷ lines_of more
    → after ≡ min (number + 1) 4294967295 → Adds script after line next → IsRead text next after more
IsRead-more text script number rest line more next after h lines is adds =
    let as_count : after ≡ line_number (length h.front + 1) = is ∙ (grind (arith, next_number)) in
    let len : length (h.front ++ line ∷ []) ≡ length h.front + 1 = omega (arith, length-append h.front (line ∷ [])) in
    let zero_more : 0 + length h.front + 1 ≡ length h.front + 1 = omega arith in
    record {
      front = h.front ++ line ∷ [];
      whole = grind (arith, append_assoc);
      count = rw len as_count;
      fine = AddsAll-more empty_script 0 h.front script line next h.fine (rw zero_more (rw as_count at adds));
    }

drop_whole : (xs : List ℕ) → drop (length xs) xs ≡ []
drop_whole [] = refl
drop_whole (x ∷ xs) = drop_whole xs

take_none : (n : ℕ) → take {A = ℕ} n [] ≡ []
take_none zero = refl
take_none (suc n) = refl

pub nothing_left : (text : List ℕ) → take (length text - length text) (drop (length text) text) ≡ []
nothing_left text = rw (drop_whole text) (take_none (length text - length text))

-- what the code that reads lines cites
pub ruleset returns_read = (nat_tests, return-yes, return-no)

pub ruleset lines_read = (rest_whole, lines-feed, nothing_left, lines-last)
