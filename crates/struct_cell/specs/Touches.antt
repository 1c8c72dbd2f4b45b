-- The words in which a call may have changed a bit.
use Rattle.std.specs.Prelude.{◌≡◌, ◌*◌, ◌<◌, ◌≤◌, ◌⊎◌, ℕ, List, All, length, get_or, if◌then◌else◌}
use Rattle.cf_types.specs.declared.effects.BitChange.{BitChange}
use Rattle.cf_types.specs.Gains.{Bits, is_for}
use Rattle.vec_words.specs.declared.stores.Place.{Place}
use Rattle.vec_words.specs.Logged.{words_of, word_number}
use Rattle.vec_words.specs.Stores.{IsSpared, IsWithin}
use Rattle.struct_cell.specs.Words.{word_in}

pub record TouchedWords : Type 0 where
  pub conns : ℕ
  pub len : ℕ
  pub places : List Place

-- both are of the same vectors
abbrev pub IsOfTable : TouchedWords → TouchedWords → Type 0
IsOfTable one other = (other.conns ≡ one.conns) × (other.len ≡ one.len)

-- the words of all vectors, each at its number
pub record MirrorWords : Type 0 where
  pub conns : ℕ
  pub len : ℕ
  pub words : List ℕ

abbrev pub AreMirrorsOf : MirrorWords → MirrorWords → Type 0
AreMirrorsOf one other = (other.conns ≡ one.conns) × (other.len ≡ one.len)

-- the same with those of them in which a call may have changed a bit
pub record VectorWords : Type 0 where
  pub conns : ℕ
  pub len : ℕ
  pub words : List ℕ
  pub places : List Place

abbrev pub AreOfTable : VectorWords → VectorWords → Type 0
AreOfTable one other = (other.conns ≡ one.conns) × (other.len ≡ one.len)

-- a word of a connector's vector
abbrev pub word_at : ℕ → List ℕ → ℕ → ℕ → ℕ
word_at len words conn word = get_or words (word_number len conn word) 0

-- the words are those of these bits
abbrev pub AreWordsOf : ℕ → ℕ → List ℕ → Bits → Type 0
AreWordsOf conns len words bits =
    (conn word : ℕ) → 0 < conn → conn ≤ conns → word < words_of len
    → word_at len words conn word ≡ word_in len bits conn word

-- the words of all vectors are those of these bits
abbrev pub AreMirroring : MirrorWords → Bits → Type 0
AreMirroring mirror bits = AreWordsOf mirror.conns mirror.len mirror.words bits

-- bits, once one is told
abbrev pub with_told : Bits → BitChange → Bits
with_told bits change conn index = if is_for conn index change then change.bit else bits conn index

-- each word of these vectors is among the places
abbrev pub IsEvery : ℕ → ℕ → List Place → Type 0
IsEvery conns len places =
    (conn word : ℕ) → 0 < conn → conn ≤ conns → word < words_of len → IsSpared places conn word → ⊥

-- each place comes before this word, by connector and then by number
abbrev pub ComeBefore : List Place → ℕ → ℕ → Type 0
ComeBefore places conn word =
    All (λ place. (place.conn.0 < conn) ⊎ ((place.conn.0 ≡ conn) × (place.word < word))) places

-- Each place is a word of the vectors, and by the word's number its index is found.
pub record AreSpotted (conns len : ℕ) (places : List Place) (spots : List ℕ) : Type 0 where
  pub within : All (IsWithin conns len) places
  pub size : length spots ≡ conns * words_of len
  pub spotted : (k : ℕ) (d : Place) → k < length places
      → get_or spots (word_number len (get_or places k d).conn.0 (get_or places k d).word) 0 ≡ k
