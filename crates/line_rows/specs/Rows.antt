-- Rows of words: how a value is printed, and how words are read.
use Rattle.std.specs.Prelude.{◌≡◌, ℕ, ◌==◌, ◌≤◌, Bool, true, List, [], ◌∷◌, ◌++◌, length, map, Option, None, Some, option_map, if◌then◌else◌, ◌&&◌, not, nat_lt}
use Rattle.std.specs.Fmt.{decimal}
use Rattle.std.specs.List.{list_all}
use Rattle.plex_spell.specs.declared.rigour.Rigour.TheVariants.{Names}
use Rattle.plex_spell.specs.Words.{is_nonempty, begins_with, words_behind}
use Rattle.plex_spell.specs.Places.{◌>>=◌, on_first, number_of}
use Rattle.plex_plain.specs.PlainWords.{told_words}

-- a byte of words: no blank, no tab, and not the end of the arrow before a reply
abbrev pub is_plain : ℕ → Bool
is_plain b = nat_lt 32 b && not (b == 62)

-- what can stand between blanks
abbrev pub is_word : List ℕ → Bool
is_word word = is_nonempty word && list_all is_plain word

-- a value that is one word
pub record Single (V : Type 0) : Type 0 where
  pub word : V → List ℕ
  pub value : List ℕ → Option V

-- a value that is all words that are left of a line
pub record Row (V : Type 0) : Type 0 where
  pub words : V → List (List ℕ)
  pub values : List (List ℕ) → Option V

-- reading is the left inverse of printing on the values that are in range, gives no others, and reads words alone
pub record IsSingle {V : Type 0} (In : V → Type 0) (one : Single V) : Type 0 where
  pub back : (v : V) → In v → one.value (one.word v) ≡ Some v
  pub forth : (word : List ℕ) (v : V) → one.value word ≡ Some v → (one.word v ≡ word) × In v
      × (is_word word ≡ true)

pub record IsRow {V : Type 0} (In : V → Type 0) (row : Row V) : Type 0 where
  pub back : (v : V) → In v → row.values (row.words v) ≡ Some v
  pub forth : (words : List (List ℕ)) (v : V) → row.values words ≡ Some v → (row.words v ≡ words) × In v
      × (list_all is_word words ≡ true)

-- ---- parts of a row

abbrev pub nothing_more : {V : Type 0} → V → List (List ℕ) → Option V
nothing_more v [] = Some v
nothing_more v (word ∷ words) = None

-- the line ends
abbrev pub done : Row (Unit {0})
done = record { words = λ v. []; values = λ ws. nothing_more tt ws }

-- a word that stands there always
abbrev pub led : {V : Type 0} → List ℕ → Row V → Row V
led word row = record {
  words = λ v. word ∷ row.words v;
  values = λ ws. if begins_with word ws then row.values (words_behind ws) else None;
}

-- a value of one word, and a row
abbrev pub and_then : {A V : Type 0} → Single A → Row V → Row (A × V)
and_then one row = record {
  words = λ v. one.word v.0 ∷ row.words v.1;
  values = λ ws. on_first one.value ws >>= (λ read. option_map (λ v. (read.0, v)) (row.values read.1));
}

-- a value behind a word, where there is one, and a row
abbrev pub optional : {A V : Type 0} → List ℕ → Single A → Row V → Row (Option A × V)
optional word one row = record {
  words = λ v. told_words word (λ a. one.word a ∷ []) v.0 ++ row.words v.1;
  values = λ ws. if begins_with word ws
      then on_first one.value (words_behind ws) >>= (λ read. option_map (λ v. (Some read.0, v)) (row.values read.1))
      else option_map (λ v. (None, v)) (row.values ws);
}

-- a list, to the end of the line
abbrev pub all_values : {A : Type 0} → Single A → List (List ℕ) → Option (List A)
all_values one [] = Some []
all_values one (word ∷ words) = one.value word >>= (λ a. option_map (λ more. a ∷ more) (all_values one words))

abbrev pub counted_of : {A : Type 0} → Single A → ℕ → List (List ℕ) → Option (List A)
counted_of one n words = all_values one words >>= (λ xs. if length xs == n then Some xs else None)

-- a list with its number in front
abbrev pub counted : {A : Type 0} → Single A → Row (List A)
counted one = record {
  words = λ xs. decimal (length xs) ∷ map one.word xs;
  values = λ ws. on_first (number_of Names 0 4294967295) ws >>= (λ read. counted_of one read.0 read.1);
}

abbrev pub AreIn : {A : Type 0} → (A → Type 0) → List A → Type 0
AreIn In [] = Unit {0}
AreIn In (x ∷ xs) = In x × AreIn In xs

abbrev pub AreCounted : {A : Type 0} → (A → Type 0) → List A → Type 0
AreCounted P xs = (length xs ≤ 4294967295) × AreIn P xs

abbrev pub IfGiven : {A : Type 0} → (A → Type 0) → Option A → Type 0
IfGiven P None = Unit {0}
IfGiven P (Some a) = P a

abbrev pub Both : {A V : Type 0} → (A → Type 0) → (V → Type 0) → A × V → Type 0
Both P Q v = P v.0 × Q v.1

-- ---- forms of one kind of line: the first that reads the words

abbrev pub or_else : {R : Type 0} → Option R → Option R → Option R
or_else None other = other
or_else (Some r) other = Some r

-- what is made of a row
abbrev pub form : {V R : Type 0} → Row V → (V → R) → List (List ℕ) → Option R
form row make ws = option_map make (row.values ws)

abbrev pub first_of : {R : Type 0} → List (List (List ℕ) → Option R) → List (List ℕ) → Option R
first_of [] ws = None
first_of (reading ∷ readings) ws = or_else (reading ws) (first_of readings ws)

-- a form behind its number
abbrev pub numbered : {R : Type 0} → ℕ → (List (List ℕ) → Option R) → ℕ → List (List ℕ) → Option R
numbered k reading n ws = if n == k then reading ws else None

-- a reader that gives only values that are printed so
abbrev pub IsForth : {R : Type 0} → (R → Type 0) → (R → List (List ℕ)) → (List (List ℕ) → Option R) → Type 0
IsForth {R} In words reading = (ws : List (List ℕ)) (r : R) → reading ws ≡ Some r
    → (words r ≡ ws) × In r × (list_all is_word ws ≡ true)

abbrev pub AreForth : {R : Type 0} → (R → Type 0) → (R → List (List ℕ)) → List (List (List ℕ) → Option R) → Type 0
AreForth In words [] = Unit {0}
AreForth In words (reading ∷ readings) = IsForth In words reading × AreForth In words readings
