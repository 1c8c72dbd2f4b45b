-- The stores of one call: each word that it names, once, under the number in flight.
use Rattle.std.specs.Prelude.{◌≡◌, ◌<◌, ◌≤◌, ◌++◌, ◌↔◌, ℕ, List, map, All, AllPairs}
use Rattle.vec_words.specs.declared.logged.Logged.{Logged}
use Rattle.vec_words.specs.declared.logged.Logged.TheVariants.{Stored}
use Rattle.vec_words.specs.declared.stores.Place.{Place}
use Rattle.vec_words.specs.Logged.{words_of, word_number}
use Rattle.vec_words.specs.Tokens.{SeatSeen}

-- the place is this word of this connector's vector
abbrev pub IsAt : ℕ → ℕ → Place → Type 0
IsAt conn word place = (place.conn.0 ≡ conn) × (place.word ≡ word)

-- the place is a word of these vectors
abbrev pub IsWithin : ℕ → ℕ → Place → Type 0
IsWithin conns len place = (0 < place.conn.0) × (place.conn.0 ≤ conns) × (place.word < words_of len)

-- no place is this word
abbrev pub IsSpared : List Place → ℕ → ℕ → Type 0
IsSpared places conn word = All (λ place. ¬ IsAt conn word place) places

-- no two places are one word
abbrev pub AreDistinct : List Place → Type 0
AreDistinct places = AllPairs (λ one other. ¬ IsAt other.conn.0 other.word one) places

module _ {D : Type 0} where
  -- the store of a word's bits under a number
  abbrev pub store_of : ℕ → (ℕ → ℕ → ℕ) → ℕ → Place → Logged D
  store_of len bits number place =
      Stored (word_number len place.conn.0 place.word) (bits place.conn.0 place.word) number

  abbrev pub stores_of : ℕ → (ℕ → ℕ → ℕ) → ℕ → List Place → List (Logged D)
  stores_of len bits number places = map (store_of len bits number) places

-- Each word that is named was stored once, with its bits and under the number in flight, and no other was.
pub record StoresEach {D : Type 0} (conns len : ℕ) (bits : ℕ → ℕ → ℕ) (named : List Place)
    (before after : SeatSeen D) : Type 0 where
  pub places : List Place
  pub seat : after ≡ record before { log = before.log ++ stores_of len bits before.number places }
  pub within : All (IsWithin conns len) places
  pub once : AreDistinct places
  pub same : (conn word : ℕ) → IsSpared places conn word ↔ IsSpared named conn word
