-- A reader of a row of places reads what the words stand for, and misses nothing.
use Rattle.plex_spell.proofs.Imports.{arith, ◌≡◌, ℕ, Bool, true, false, List, [], ◌∷◌, ◌++◌, Option, Some, option_map, refl, lit<, Refs, Decision, LockUse, Rigour, same_word, begins_with, words_behind, Declared, Token, IsWord, Spells, Literal, Number, one_of_two, references, decision, lock_use, is_names, on_first, number_of, either_of, decision_of, lock_use_of, refs_of, number_at}
use Rattle.plex_spell.proofs.Choices.{chosen, not_some, mapped, word-same, same_word-of}
use Rattle.plex_spell.proofs.WordLaws.{Finds, number-sound, number-complete}

abbrev pub Words : Type 0
Words = List (List ℕ)

-- what a reader makes of words that stand for a value, and the words behind it
pub record FindsAll {V : Type 0} (rigour : Rigour) (reading : Option (V × Words)) (value : V) (rest : Words) : Type 0
  where
    pub found : V
    pub read : reading ≡ Some (found, rest)
    pub same : is_names rigour ≡ true → found ≡ value

-- ---- rows of tokens

pub Spells-append : (rigour : Rigour) (declared : Declared) (ts us : List Token) (ws mid rest : Words) → Spells
    rigour declared ts ws mid → Spells rigour declared us mid rest → Spells rigour declared (ts ++ us) ws rest
Spells-append rigour declared [] us ws mid rest h k = rw h k
Spells-append rigour declared (t ∷ ts) us [] mid rest h k = absurd h
Spells-append rigour declared (t ∷ ts) us (w ∷ ws) mid rest h k =
    grind (arith, Spells-append rigour declared ts us ws mid rest h.1 k)

pub record Split (rigour : Rigour) (declared : Declared) (ts us : List Token) (ws rest : Words) : Type 0 where
  pub mid : Words
  pub front : Spells rigour declared ts ws mid
  pub behind_ : Spells rigour declared us mid rest

module _ (rigour : Rigour) (declared : Declared) where
  pub Spells-split : (ts us : List Token) (ws rest : Words)
      → Spells rigour declared (ts ++ us) ws rest → Split rigour declared ts us ws rest
  Spells-split [] us ws rest h = record { mid = ws; front = refl; behind_ = h }
  Spells-split (t ∷ ts) us [] rest h = absurd h
  Spells-split (t ∷ ts) us (w ∷ ws) rest h = grind (arith, Spells-split ts us ws rest h.1)

  -- ---- single words

  pub single-sound : {V : Type 0} (f : List ℕ → Option V) (token : V → Token)
      → ((w : List ℕ) (v : V) → f w ≡ Some v → IsWord rigour declared (token v) w)
      → (ws rest : Words) (v : V) → on_first f ws ≡ Some (v, rest) → Spells rigour declared (token v ∷ []) ws rest
  single-sound f token sound [] rest v h = absurd (cc)
  single-sound {V} f token sound (w ∷ ws) rest v h = grind (arith, mapped)

  pub single-complete : {V : Type 0} (f : List ℕ → Option V) (token : V → Token) (v : V)
      → ((w : List ℕ) → IsWord rigour declared (token v) w → Finds rigour (f w) v) → (ws rest : Words)
      → Spells rigour declared (token v ∷ []) ws rest → FindsAll rigour (on_first f ws) v rest
  single-complete f token v complete [] rest h = absurd h
  single-complete {V} f token v complete (w ∷ ws) rest h = grind arith

-- ---- choices of words

module _ (rigour : Rigour) (declared : Declared) where
  pub either-sound : (first second : List ℕ) (w : List ℕ) (b : Bool) → either_of first second w ≡ Some b
      → IsWord rigour declared (one_of_two first second b) w
  either-sound first second w b h = grind (arith, chosen, word-same, not_some)

  pub either-complete : (first second : List ℕ) → same_word second first ≡ false → (w : List ℕ) (b : Bool)
      → IsWord rigour declared (one_of_two first second b) w → Finds rigour (either_of first second w) b
  either-complete first second other w b h = grind (arith, same_word-of)

  pub decision-sound : (w : List ℕ) (how : Decision) → decision_of w ≡ Some how
      → IsWord rigour declared (decision how) w
  decision-sound w how h = grind (arith, chosen, word-same, not_some)

  pub decision-complete : (w : List ℕ) (how : Decision) → IsWord rigour declared (decision how) w
      → Finds rigour (decision_of w) how
  decision-complete w how h = grind arith

  pub lock_use-sound : (w : List ℕ) (how : LockUse) → lock_use_of w ≡ Some how → IsWord rigour declared (lock_use how) w
  lock_use-sound w how h = grind (arith, chosen, word-same, not_some)

  pub lock_use-complete : (w : List ℕ) (how : LockUse) → IsWord rigour declared (lock_use how) w
      → Finds rigour (lock_use_of w) how
  lock_use-complete w how h = grind arith

  pub refs-sound : (w : List ℕ) (how : Refs) → refs_of w ≡ Some how → IsWord rigour declared (references how) w
  refs-sound w how h = grind (arith, chosen, word-same, not_some)

  pub refs-complete : (w : List ℕ) (how : Refs) → IsWord rigour declared (references how) w
      → Finds rigour (refs_of w) how
  refs-complete w how h = grind arith

  -- ---- words that come first

  -- behind this word stands what the rest says
  pub led : (word : List ℕ) (tokens : List Token) (ws rest : Words) → begins_with word ws ≡ true
      → Spells rigour declared tokens (words_behind ws) rest → Spells rigour declared (Literal word ∷ tokens) ws rest
  led word tokens [] rest e h = absurd (cc)
  led word tokens (w ∷ ws) rest e h = (word-same w word e, h)

pub record Led (rigour : Rigour) (declared : Declared) (word : List ℕ) (tokens : List Token) (ws rest : Words) : Type
    0 where
  pub begins : begins_with word ws ≡ true
  pub rest_is : Spells rigour declared tokens (words_behind ws) rest
  pub first_is : (other : List ℕ) → same_word word other ≡ begins_with other ws

module _ (rigour : Rigour) (declared : Declared) where
  pub led-by : (word : List ℕ) (tokens : List Token) (ws rest : Words)
      → Spells rigour declared (Literal word ∷ tokens) ws rest → Led rigour declared word tokens ws rest
  led-by word tokens [] rest h = absurd h
  led-by word tokens (w ∷ ws) rest h = grind (arith, same_word-of)

  -- a value that is read behind a word
  pub behind-sound : {V W : Type 0} (f : V → W) (reading : Option (V × Words)) (tokens : W → List Token)
      (ws rest : Words) (value : W) → ((v : V) → reading ≡ Some (v, rest) → Spells rigour declared
      (tokens (f v)) ws rest) → option_map (λ (read : V × Words). (let p : W × Words = (f read.0, read.1) in p))
      reading ≡ Some (value, rest) → Spells rigour declared (tokens value) ws rest
  behind-sound {V} {W} f reading tokens ws rest value sound h = grind (arith, mapped)

pub behind-complete : {V W : Type 0} (rigour : Rigour) (f : V → W)
    (reading : Option (V × Words)) (rest : Words) (v : V) → FindsAll rigour reading v rest → FindsAll
    rigour (option_map (λ (read : V × Words). (let p : W × Words = (f read.0, read.1) in p)) reading) (f v) rest
behind-complete {V} {W} rigour f reading rest v h = grind arith

module _ (rigour : Rigour) (declared : Declared) where
  pub number_at-sound : (ws rest : Words) (n : ℕ)
      → number_at rigour ws ≡ Some (n, rest) → Spells rigour declared (Number 0 4294967295 n ∷ []) ws rest
  number_at-sound ws rest n h = grind (arith, single-sound, number-sound, lit<)

  pub number_at-complete : (ws rest : Words) (n : ℕ)
      → Spells rigour declared (Number 0 4294967295 n ∷ []) ws rest → FindsAll rigour (number_at rigour ws) n rest
  number_at-complete ws rest n h = single-complete rigour declared (number_of rigour 0 4294967295)
      (Number 0 4294967295) n (λ w. number-complete rigour 0 4294967295 (lit< tt) w n) ws rest h

-- ---- both directions

-- a reading makes of words what they stand for, and misses nothing
pub record Reads {V : Type 0} (rigour : Rigour) (declared : Declared) (reading : Words → Option (V × Words))
    (tokens : V → List Token) : Type 0 where
  pub sound : (ws rest : Words) (v : V) → reading ws ≡ Some (v, rest) → Spells rigour declared (tokens v) ws rest
  pub complete : (ws rest : Words) (v : V) → Spells rigour declared (tokens v) ws rest
      → FindsAll rigour (reading ws) v rest

-- so does one that reads the first word
pub one_word : {V : Type 0} (rigour : Rigour) (declared : Declared) (f : List ℕ → Option V) (token : V → Token)
    → ((w : List ℕ) (v : V) → f w ≡ Some v → IsWord rigour declared (token v) w) → ((w : List ℕ) (v : V) → IsWord
    rigour declared (token v) w → Finds rigour (f w) v) → Reads rigour declared (on_first f) (λ v. token v ∷ [])
one_word rigour declared f token sound complete = record {
  sound = single-sound rigour declared f token sound;
  complete = λ ws rest v. single-complete rigour declared f token v (λ w. complete w v) ws rest;
}
