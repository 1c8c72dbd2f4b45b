-- A line with one blank between each two words is its words with a blank between each two.
use Rattle.std.proofs.Common.{◌≡◌, ℕ, ◌==◌, Bool, true, false, not, cond, nat_lt, List, [], ◌∷◌, ◌++◌, Some, None, refl, sym, ap, ◌∙◌, arith, append_assoc}
use Rattle.std.specs.List.{list_all, filter}
use Rattle.std.proofs.lemmas.List.{append-nil}
use Rattle.std.proofs.lemmas.Bool.{and_parts, and_from}
use Rattle.std.proofs.lemmas.Bool.Decides.{nat_tests}
use Rattle.std.proofs.lemmas.List.Splits.{slice_split_at, slice_split_none}
use Rattle.plex_spell.specs.Words.{is_blank, is_nonempty, words_of, line_of, tail_of}
use Rattle.plex_spell.proofs.Choices.{chosen, not_some}
use Rattle.plex_plain.proofs.Tests.{all-append, all-fail}
use Rattle.plex_plain.proofs.Texts.{words-back}
use Rattle.line_rows.specs.Rows.{is_plain, is_word, Row, IsRow}
use Rattle.line_rows.proofs.Words.{are-good}
use Rattle.report_lines.specs.Spaced.{is_spaced_at, is_spaced, line_value}

-- no blank and no tab
abbrev no_blank : ℕ → Bool
no_blank b = not (is_blank b)

blank_told : (b : ℕ) → no_blank b ≡ true → is_blank b ≡ false
blank_told b h = grind (arith, nat_tests)

free_of_blank : (b : ℕ) → (b == 32) ≡ false → (b == 9) ≡ false → no_blank b ≡ true
free_of_blank b h k = rw (h, k) refl

-- ---- a spaced line is the line of its words

-- the words behind the one that a text begins with
first_of_line : (w rest : List ℕ) → is_nonempty w ≡ true → list_all no_blank w ≡ true
    → words_of (w ++ 32 ∷ rest) ≡ w ∷ words_of rest
first_of_line w rest some all =
    ap (filter is_nonempty) (slice_split_at is_blank w 32 rest (all-fail no_blank is_blank blank_told w all) refl)
    ∙ (rw some refl)

last_of_line : (w : List ℕ) → is_nonempty w ≡ true → list_all no_blank w ≡ true → words_of w ≡ w ∷ []
last_of_line w some all =
    ap (filter is_nonempty) (slice_split_none is_blank w (all-fail no_blank is_blank blank_told w all)) ∙ (rw some refl)

-- a line of no words is empty
tail-line : (w rest : List ℕ) (words : List (List ℕ)) → is_nonempty rest ≡ true → line_of words ≡ rest
    → line_of (w ∷ words) ≡ w ++ 32 ∷ rest
tail-line w rest [] some e = absurd (cc)
tail-line w rest (word ∷ words) some e = ap (λ (l : List ℕ). w ++ 32 ∷ l) e

some-spaced : (rest : List ℕ) → is_spaced_at true rest ≡ true → is_nonempty rest ≡ true
some-spaced [] h = h
some-spaced (b ∷ rest) h = refl

-- behind the front of a word
abbrev IsBehind : List ℕ → Type 0
IsBehind bs = (w : List ℕ) → list_all no_blank w ≡ true → is_spaced_at (not (is_nonempty w)) bs ≡ true
    → line_of (words_of (w ++ bs)) ≡ w ++ bs

some-more : (w : List ℕ) (b : ℕ) → is_nonempty (w ++ b ∷ []) ≡ true
some-more [] b = refl
some-more (c ∷ w) b = refl

-- a blank behind a word
blank-behind : (bs w : List ℕ) → IsBehind bs → list_all no_blank w ≡ true
    → cond (not (is_nonempty w)) false (is_spaced_at true bs) ≡ true
    → line_of (words_of (w ++ 32 ∷ bs)) ≡ w ++ 32 ∷ bs
blank-behind bs [] more all h = absurd (cc)
blank-behind bs (c ∷ w) more all h =
    let rest : line_of (words_of bs) ≡ bs = more [] refl h in
    ap line_of (first_of_line (c ∷ w) bs refl all) ∙ tail-line (c ∷ w) bs (words_of bs) (some-spaced bs h) rest

-- a byte more of a word
byte-behind : (b : ℕ) (bs w : List ℕ) → IsBehind bs → list_all no_blank w ≡ true → no_blank b ≡ true
    → is_spaced_at false bs ≡ true → line_of (words_of (w ++ b ∷ bs)) ≡ w ++ b ∷ bs
byte-behind b bs w more all free h =
    let pure = all-append no_blank w (b ∷ []) all (and_from (no_blank b) true free refl) in
    let some = some-more w b in
    let fresh : is_spaced_at (not (is_nonempty (w ++ b ∷ []))) bs ≡ true = rw some h in
    let whole : (w ++ b ∷ []) ++ bs ≡ w ++ b ∷ bs = append_assoc w (b ∷ []) bs in
    sym (ap (λ (l : List ℕ). line_of (words_of l)) whole) ∙ more (w ++ b ∷ []) pure fresh ∙ whole

tab-behind : (t : Bool) (b : ℕ) (bs w : List ℕ) → IsBehind bs → list_all no_blank w ≡ true → (b == 32) ≡ false
    → (b == 9) ≡ t → cond t false (is_spaced_at false bs) ≡ true → line_of (words_of (w ++ b ∷ bs)) ≡ w ++ b ∷ bs
tab-behind true b bs w more all e f h = absurd (cc)
tab-behind false b bs w more all e f h = byte-behind b bs w more all (free_of_blank b e f) h

next-behind : (t : Bool) (b : ℕ) (bs w : List ℕ) → IsBehind bs → list_all no_blank w ≡ true → (b == 32) ≡ t
    → cond t (cond (not (is_nonempty w)) false (is_spaced_at true bs)) (cond (b == 9) false (is_spaced_at false bs)) ≡ true
    → line_of (words_of (w ++ b ∷ bs)) ≡ w ++ b ∷ bs
next-behind true b bs w more all e h =
    let blank : b ≡ 32 = grind (arith, nat_tests) in
    let same : w ++ b ∷ bs ≡ w ++ 32 ∷ bs = ap (λ (n : ℕ). w ++ n ∷ bs) blank in
    ap (λ (l : List ℕ). line_of (words_of l)) same ∙ blank-behind bs w more all h ∙ sym same
next-behind false b bs w more all e h = tab-behind (b == 9) b bs w more all e refl h

spaced-behind : (bs : List ℕ) → IsBehind bs
spaced-behind [] [] all h = refl
spaced-behind [] (c ∷ w) all h =
    let whole : (c ∷ w) ++ [] ≡ c ∷ w = append-nil (c ∷ w) in
    let ends : line_of (words_of (c ∷ w)) ≡ (c ∷ w) ++ [] = ap line_of (last_of_line (c ∷ w) refl all) in
    ap (λ (l : List ℕ). line_of (words_of l)) whole ∙ ends
spaced-behind (b ∷ bs) w all h = next-behind (b == 32) b bs w (spaced-behind bs) all refl h

pub spaced-line : (line : List ℕ) → is_spaced line ≡ true → line_of (words_of line) ≡ line
spaced-line [] h = refl
spaced-line (b ∷ bs) h = spaced-behind (b ∷ bs) [] refl h

-- ---- and a line of words is spaced

above-blank : (b : ℕ) → nat_lt 32 b ≡ true → ((b == 32) ≡ false) × ((b == 9) ≡ false)
above-blank b h = (grind (arith, nat_tests), grind (arith, nat_tests))

plain_other : (b : ℕ) → is_plain b ≡ true → ((b == 32) ≡ false) × ((b == 9) ≡ false)
plain_other b h = above-blank b (and_parts (nat_lt 32 b) (not (b == 62)) h).0

over-word : (fresh : Bool) (b : ℕ) (word rest : List ℕ) → list_all is_plain (b ∷ word) ≡ true
    → is_spaced_at fresh ((b ∷ word) ++ rest) ≡ is_spaced_at false rest
over-word fresh b [] rest h =
    let other = plain_other b (and_parts (is_plain b) true h).0 in
    rw (other.0, other.1) refl
over-word fresh b (c ∷ word) rest h =
    let parts = and_parts (is_plain b) (list_all is_plain (c ∷ word)) h in
    let other = plain_other b parts.0 in
    rw (other.0, other.1) (over-word false c word rest parts.1)

over-words : (fresh : Bool) (word : List ℕ) (words : List (List ℕ)) → list_all is_word (word ∷ words) ≡ true
    → is_spaced_at fresh (line_of (word ∷ words)) ≡ true
over-words fresh [] words h = absurd (cc)
over-words fresh (b ∷ word) [] h =
    let parts = and_parts (is_word (b ∷ word)) true h in
    over-word fresh b word [] parts.0 ∙ refl
over-words fresh (b ∷ word) (next ∷ words) h =
    let parts = and_parts (is_word (b ∷ word)) (list_all is_word (next ∷ words)) h in
    over-word fresh b word (tail_of (next ∷ words)) parts.0 ∙ over-words true next words parts.1

spaced-first : (line : List ℕ) → is_nonempty line ≡ true → is_spaced_at true line ≡ true → is_spaced line ≡ true
spaced-first [] some h = absurd (cc)
spaced-first (b ∷ bs) some h = h

some-line : (word : List ℕ) (rest : List ℕ) → is_word word ≡ true → is_nonempty (word ++ rest) ≡ true
some-line [] rest h = absurd (cc)
some-line (b ∷ word) rest h = refl

pub line-spaced : (words : List (List ℕ)) → list_all is_word words ≡ true → is_spaced (line_of words) ≡ true
line-spaced [] h = refl
line-spaced (word ∷ words) h =
    let parts = and_parts (is_word word) (list_all is_word words) h in
    spaced-first (line_of (word ∷ words)) (some-line word (tail_of words) parts.0) (over-words true word words h)

-- ---- rows

pub line-sound : {V : Type 0} (In : V → Type 0) (row : Row V) (line : List ℕ) (v : V) → IsRow In row
    → line_value row line ≡ Some v → (line_of (row.words v) ≡ line) × In v
line-sound {V} In row line v is h = chosen (is_spaced line) (row.values (words_of line)) None v (λ spaced read.
    let f = is.forth (words_of line) v read in
    (ap line_of f.0 ∙ spaced-line line spaced, f.1)) (λ _ none. not_some v none) h

pub line-complete : {V : Type 0} (In : V → Type 0) (row : Row V) (line : List ℕ) (v : V) → IsRow In row
    → In v → line_of (row.words v) ≡ line → line_value row line ≡ Some v
line-complete {V} In row line v is in_v e =
    let back = is.back v in_v in
    let words = (is.forth (row.words v) v back).2 in
    let spaced : is_spaced line ≡ true = sym (ap is_spaced e) ∙ line-spaced (row.words v) words in
    let same : words_of line ≡ row.words v = sym (ap words_of e) ∙ words-back (row.words v) (are-good (row.words v) words) in
    rw (spaced, same) back
