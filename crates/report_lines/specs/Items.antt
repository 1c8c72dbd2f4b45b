-- What a transcript shows of a structure, as rows of words.
use Rattle.std.specs.Prelude.{ℕ, ◌<◌, ◌-◌, ◌+◌, ◌*◌, ◌==◌, ◌^◌, Bool, true, false, IsTrue, if◌then◌else◌, List, [], ◌∷◌, length, Option, None, Some, option_map, codes}
use Rattle.cf_types.specs.declared.forms.Kind.{Kind}
use Rattle.cf_types.specs.declared.forms.Kind.TheVariants as kind
use Rattle.cf_types.specs.declared.forms.StrForm.{StrForm}
use Rattle.cf_types.specs.declared.numbers.StrNo.{StrNo}
use Rattle.plex_spell.specs.Tokens.{structure_of}
use Rattle.plex_spell.specs.Places.{◌>>=◌, on_first}
use Rattle.plex_spell.specs.Patterns.{either_of}
use Rattle.plex_plain.specs.Naming.{structure_name}
use Rattle.plex_script.specs.declared.transcripts.Shown.{Shown}
use Rattle.plex_script.specs.declared.transcripts.Shown.TheVariants.{Call, Test, Word, BadIndex, Posted, Took}
use Rattle.plex_script.specs.Causes.{kind_of}
use Rattle.plex_script.specs.LineWords.{has_vectors}
use Rattle.plex_report.specs.Lines.{bit_word, binary_digits, test_word}
use Rattle.line_rows.specs.Rows.{Single, Row, done, led, and_then, form, first_of}
use Rattle.reply_rows.specs.Parts.{small, with_one}
use Rattle.reply_rows.specs.Within.{IsSmall}

-- ---- words

-- a structure of these by its name
abbrev pub a_structure : List StrForm → Single StrNo
a_structure structures = record { word = λ on. structure_name structures on.0; value = structure_of structures }

-- what a bit says, at a structure with vectors
abbrev pub bit_of : Kind → List ℕ → Option Bool
bit_of kind.Cache word = either_of (codes "VALID") (codes "INVALID") word
bit_of (kind.List headers locks refs) word = either_of (codes "NOTEMPTY") (codes "EMPTY") word
bit_of kind.Lock word = None

abbrev pub a_bit : Kind → Single Bool
a_bit k = record { word = bit_word k; value = bit_of k }

-- a binary digit
abbrev pub digit_of : ℕ → Option ℕ
digit_of b = if b == 48 then Some 0 else if b == 49 then Some 1 else None

-- the number of so many binary digits, the lowest first
abbrev pub bits_at : ℕ → List ℕ → Option ℕ
bits_at count [] = if count == 0 then Some 0 else None
bits_at count (b ∷ word) =
    if count == 0 then None
    else digit_of b >>= (λ digit. option_map (λ more. digit + 2 * more) (bits_at (count - 1) word))

abbrev pub bits : ℕ → Single ℕ
bits count = record { word = binary_digits count; value = bits_at count }

-- ---- rows, behind the structure

abbrev pub number_row : Row (ℕ × Unit {0})
number_row = and_then small done

abbrev pub test_row : Kind → Row (ℕ × (Bool × (ℕ × Unit {0})))
test_row k = led (codes "TEST") (and_then small (and_then (a_bit k) (and_then small done)))

abbrev pub word_row : Row (ℕ × (ℕ × (ℕ × Unit {0})))
word_row = led (codes "TESTWORD") (and_then small (and_then (bits 32) (and_then small done)))

-- an index, or a word, that isn't in the vector
abbrev pub bad_row : List ℕ → Row (ℕ × (ℕ × Unit {0}))
bad_row word = led word (and_then small (led (codes "BADINDEX") (and_then small done)))

abbrev pub behind_words : Kind → Shown → List (List ℕ)
behind_words k (Call on number) = number_row.words (number, tt)
behind_words k (Test on index bit at) = (test_row k).words (index, (bit, (at, tt)))
behind_words k (Word on word bits at) = word_row.words (word, (bits, (at, tt)))
behind_words k (BadIndex on index word len) = (bad_row (test_word word)).words (index, (len, tt))
behind_words k (Posted on sure) = (with_one (codes "POST") small).words (sure, tt)
behind_words k (Took on sure) = (with_one (codes "TAKE") small).words (sure, tt)

abbrev pub behind_forms : Kind → StrNo → List (List (List ℕ) → Option Shown)
behind_forms k on =
    form number_row (λ v. Call on v.0)
    ∷ form (test_row k) (λ v. Test on v.0 v.1.0 v.1.1.0)
    ∷ form word_row (λ v. Word on v.0 v.1.0 v.1.1.0)
    ∷ form (bad_row (codes "TEST")) (λ v. BadIndex on v.0 false v.1.0)
    ∷ form (bad_row (codes "TESTWORD")) (λ v. BadIndex on v.0 true v.1.0)
    ∷ form (with_one (codes "POST") small) (λ v. Posted on v.0)
    ∷ form (with_one (codes "TAKE") small) (λ v. Took on v.0)
    ∷ []

-- ---- items

-- where it was shown
abbrev pub place_of : Shown → StrNo
place_of (Call on number) = on
place_of (Test on index bit at) = on
place_of (Word on word bits at) = on
place_of (BadIndex on index word len) = on
place_of (Posted on sure) = on
place_of (Took on sure) = on

abbrev pub shown_row : List StrForm → Row Shown
shown_row structures = record {
  words = λ shown. structure_name structures (place_of shown).0
      ∷ behind_words (kind_of structures (place_of shown)) shown;
  values = λ words. on_first (structure_of structures) words
      >>= (λ read. first_of (behind_forms (kind_of structures read.0) read.0) read.1);
}

-- numbers of 32 bits; a bit only where there are vectors
abbrev pub IsShown : Kind → Shown → Type 0
IsShown k (Call on number) = IsSmall number × Unit {0}
IsShown k (Test on index bit at) = IsSmall index × (IsTrue (has_vectors k) × (IsSmall at × Unit {0}))
IsShown k (Word on word bits at) = IsSmall word × ((bits < 2 ^ 32) × (IsSmall at × Unit {0}))
IsShown k (BadIndex on index word len) = IsSmall index × (IsSmall len × Unit {0})
IsShown k (Posted on sure) = IsSmall sure × Unit {0}
IsShown k (Took on sure) = IsSmall sure × Unit {0}

-- an item of one of these structures, with such values
abbrev pub IsShownAt : List StrForm → Shown → Type 0
IsShownAt structures shown =
    ((place_of shown).0 < length structures) × IsShown (kind_of structures (place_of shown)) shown
