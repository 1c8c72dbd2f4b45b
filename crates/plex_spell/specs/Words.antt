-- Texts as lines, and lines as words.
use Rattle.std.specs.Prelude.{ℕ, ◌==◌, ◌||◌, Bool, true, false, not, if◌then◌else◌, List, [], ◌∷◌, ◌++◌, filter, nat_eq}
use Rattle.std.specs.Cmp.Lexicographic.{pointwise}
use Rattle.std.specs.List.{slice_split, flat_map}

-- a blank or a tab
abbrev pub is_blank : ℕ → Bool
is_blank b = b == 32 || b == 9

abbrev pub is_nonempty : List ℕ → Bool
is_nonempty [] = false
is_nonempty (b ∷ bs) = true

-- the words of a line stand between its blanks and tabs
abbrev pub words_of : List ℕ → List (List ℕ)
words_of line = filter is_nonempty (slice_split is_blank line)

-- a text begins with a word, and not with a blank
abbrev pub begins_word : List ℕ → Bool
begins_word [] = false
begins_word (b ∷ bs) = not (is_blank b)

-- a line without the carriage return at its end
abbrev pub without_return : List ℕ → List ℕ
without_return [] = []
without_return (b ∷ []) = if b == 13 then [] else b ∷ []
without_return (b ∷ c ∷ bs) = b ∷ without_return (c ∷ bs)

-- each part of a text but the last ended at a line feed; an empty last part is no line
abbrev pub lines_in : List (List ℕ) → List (List ℕ)
lines_in [] = []
lines_in (last ∷ []) = if is_nonempty last then last ∷ [] else []
lines_in (line ∷ next ∷ lines) = without_return line ∷ lines_in (next ∷ lines)

-- the lines of a text, without what ends them: a line feed, with one carriage return before it or none
abbrev pub lines_of : List ℕ → List (List ℕ)
lines_of text = lines_in (slice_split (λ b. b == 10) text)

-- whether the first word is this one, and the words behind the first
abbrev pub same_word : List ℕ → List ℕ → Bool
same_word a b = pointwise nat_eq a b

abbrev pub begins_with : List ℕ → List (List ℕ) → Bool
begins_with wanted [] = false
begins_with wanted (word ∷ words) = same_word word wanted

abbrev pub words_behind : List (List ℕ) → List (List ℕ)
words_behind [] = []
words_behind (word ∷ words) = words

-- the words, with a blank before each
abbrev pub tail_of : List (List ℕ) → List ℕ
tail_of words = flat_map (λ word. 32 ∷ word) words

-- the words, with a blank between each two
abbrev pub line_of : List (List ℕ) → List ℕ
line_of [] = []
line_of (word ∷ words) = word ++ tail_of words

-- a line with its line feed
abbrev pub line_text : List ℕ → List ℕ
line_text line = line ++ 10 ∷ []
