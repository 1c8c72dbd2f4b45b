-- Words of a line, and lines of a text, are read back.
use Rattle.plex_plain.proofs.Imports.{◌≡◌, ℕ, ◌≤◌, ◌==◌, Bool, true, false, nat_lt, List, [], ◌∷◌, ◌++◌, length, refl, ap, ◌∙◌, arith, append_assoc, list_all, flat_map, filter, slice_split, and_parts, nat_tests, append-nil, slice_split_at, slice_split_none, is_blank, is_nonempty, words_of, without_return, lines_in, lines_of, tail_of, line_of, line_text}
use Rattle.plex_plain.proofs.{Said.solid, Tests.all-append, Tests.all-weaker, Tests.all-fail}

-- bytes that stand in words, and bytes that stand in lines
abbrev pub clear : ℕ → Bool
clear b = nat_lt 31 b

-- a word of so many bytes at most, without blanks
pub record IsGood (most : ℕ) (word : List ℕ) : Type 0 where
  pub some : is_nonempty word ≡ true
  pub solid_all : list_all solid word ≡ true
  pub short : length word ≤ most

abbrev pub AreGood : List (List ℕ) → Type 0
AreGood [] = Unit {0}
AreGood (word ∷ words) = (is_nonempty word ≡ true) × (list_all solid word ≡ true) × AreGood words

-- ---- bytes

not_blank : (b : ℕ) → solid b ≡ true → is_blank b ≡ false
not_blank b h = grind (arith, nat_tests)

not_feed : (b : ℕ) → clear b ≡ true → (b == 10) ≡ false
not_feed b h = grind (arith, nat_tests)

not_return : (b : ℕ) → clear b ≡ true → (b == 13) ≡ false
not_return b h = grind (arith, nat_tests)

solid_clear : (b : ℕ) → solid b ≡ true → clear b ≡ true
solid_clear b h = grind (arith, nat_tests)

-- ---- words of a line

-- the words of a line are those that it was made of
pub words-back : (words : List (List ℕ)) → AreGood words → words_of (line_of words) ≡ words
words-back [] h = refl
words-back (word ∷ []) h =
    let whole = slice_split_none is_blank word (all-fail solid is_blank not_blank word h.1) in
    let one : words_of word ≡ word ∷ [] = ap (filter is_nonempty) whole ∙ (rw h.0 refl) in
    ap words_of (append-nil word) ∙ one
words-back (word ∷ next ∷ words) h =
    let rest = line_of (next ∷ words) in
    let cut = slice_split_at is_blank word 32 rest (all-fail solid is_blank not_blank word h.1) refl in
    let more : words_of rest ≡ next ∷ words = words-back (next ∷ words) h.2 in
    let kept : filter is_nonempty (word ∷ slice_split is_blank rest) ≡ word ∷ words_of rest = rw h.0 refl in
    ap (filter is_nonempty) cut ∙ (kept ∙ ap (λ (ws : List (List ℕ)). word ∷ ws) more)

spaced-clear : (words : List (List ℕ)) → AreGood words → list_all clear (tail_of words) ≡ true
spaced-clear [] h = refl
spaced-clear (word ∷ words) h = grind (arith, all-append, all-weaker, solid, solid_clear, spaced-clear words h.2)

pub line-clear : (words : List (List ℕ)) → AreGood words → list_all clear (line_of words) ≡ true
line-clear [] h = refl
line-clear (word ∷ words) h = grind (arith, all-append, all-weaker, solid, solid_clear, spaced-clear)

-- ---- lines of a text

whole_line : (line : List ℕ) → list_all clear line ≡ true → without_return line ≡ line
whole_line [] h = refl
whole_line (b ∷ []) h = let no = not_return b (and_parts (clear b) true h).0 in rw no refl
whole_line (b ∷ c ∷ line) h =
    ap (λ (l : List ℕ). b ∷ l) (whole_line (c ∷ line) (and_parts (clear b) (list_all clear (c ∷ line)) h).1)

abbrev pub AreClear : List (List ℕ) → Type 0
AreClear [] = Unit {0}
AreClear (line ∷ lines) = (list_all clear line ≡ true) × AreClear lines

pub clear-append : (xs ys : List (List ℕ)) → AreClear xs → AreClear ys → AreClear (xs ++ ys)
clear-append [] ys h k = k
clear-append (x ∷ xs) ys h k = (h.0, clear-append xs ys h.1 k)

abbrev is_feed : ℕ → Bool
is_feed b = b == 10

-- the parts of the text between line feeds
parts-back : (lines : List (List ℕ)) → AreClear lines
    → slice_split is_feed (flat_map line_text lines) ≡ lines ++ [] ∷ []
parts-back [] h = refl
parts-back (line ∷ lines) h =
    let rest = flat_map line_text lines in
    let same : flat_map line_text (line ∷ lines) ≡ line ++ 10 ∷ rest = append_assoc line (10 ∷ []) rest in
    let cut = slice_split_at is_feed line 10 rest (all-fail clear is_feed not_feed line h.0) refl in
    ap (slice_split is_feed) same ∙ (cut ∙ ap (λ (ls : List (List ℕ)). line ∷ ls) (parts-back lines h.1))

ended-back : (lines : List (List ℕ)) → AreClear lines → lines_in (lines ++ [] ∷ []) ≡ lines
ended-back [] h = refl
ended-back (line ∷ []) h = ap (λ (l : List ℕ). l ∷ []) (whole_line line h.0)
ended-back (line ∷ next ∷ lines) h = grind (arith, whole_line, ended-back (next ∷ lines) h.1)

-- the lines of a text are those that it was made of
pub lines-back : (lines : List (List ℕ)) → AreClear lines → lines_of (flat_map line_text lines) ≡ lines
lines-back lines h = ap lines_in (parts-back lines h) ∙ ended-back lines h
