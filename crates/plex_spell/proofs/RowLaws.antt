-- Places of several words, and rows of places.
use Rattle.plex_spell.proofs.Imports.{arith, ◌≡◌, ℕ, Bool, true, false, not, ◌==◌, List, [], ◌∷◌, Option, Some, None, option_map, codes, refl, list_any, Name16, Key16, EntryId, At, Cond, NotHeld, HeldBy, Label, Rigour, same_word, begins_with, words_behind, Declared, Token, Spells, Literal, Number, Term, Record, name_tokens, key_tokens, number_tokens, class_tokens, at_tokens, cond_tokens, not-true, or_parts, not_from_false, on_first, name_of, key_of, record_of, label_tokens, number_at, class_at, cond_at, label_at, key_at, record_at}
use Rattle.plex_spell.proofs.Choices.{pick, chosen, not_some, bound, word-same}
use Rattle.plex_spell.proofs.WordLaws.{name-sound, name-complete, key-sound, key-complete, record-sound, record-complete}
use Rattle.plex_spell.proofs.PlaceLaws.{Words, FindsAll, Spells-append, Spells-split, Reads, one_word, led, led-by, behind-sound, behind-complete, number_at-sound, number_at-complete}

-- ---- which words may follow

-- the first of the words is none of these
abbrev pub free_of : List (List ℕ) → Words → Bool
free_of keys [] = true
free_of keys (w ∷ ws) = not (list_any (same_word w) keys)

pub free-parts : (key : List ℕ) (keys : List (List ℕ)) (ws : Words) → free_of (key ∷ keys) ws ≡ true
    → (begins_with key ws ≡ false) × (free_of keys ws ≡ true)
free-parts key keys [] h = (refl, refl)
free-parts key keys (w ∷ ws) h = grind (arith, not-true, or_parts, not_from_false)

abbrev pub cond_keys : List (List ℕ)
cond_keys = codes "NOTHELD" ∷ codes "HELDBY" ∷ []

abbrev pub label_keys : List (List ℕ)
label_keys = codes "NAME" ∷ codes "KEY" ∷ []

module _ (rigour : Rigour) (declared : Declared) where
  -- ---- names, keys and numbers

  pub names_read : Reads rigour declared (on_first (name_of rigour)) name_tokens
  names_read =
      one_word rigour declared (name_of rigour) (λ (n : Name16). Term n.0) (name-sound rigour) (name-complete rigour)

  pub keys_read : Reads rigour declared (on_first (key_of rigour)) key_tokens
  keys_read =
      one_word rigour declared (key_of rigour) (λ (k : Key16). Term k.0) (key-sound rigour) (key-complete rigour)

  ids_read : Reads rigour declared (on_first (record_of rigour)) (λ id. Record id ∷ [])
  ids_read = one_word rigour declared (record_of rigour) Record (record-sound rigour) (record-complete rigour)

  numbers_read : Reads rigour declared (number_at rigour) number_tokens
  numbers_read = record { sound = number_at-sound rigour declared; complete = number_at-complete rigour declared }

  -- ---- nothing there

  pub nothing-sound : {V : Type 0} (tokens : Option V → List Token) (ws rest : Words) (value : Option V)
      → tokens None ≡ [] → (let p : Option V × Words = (None, ws) in Some p) ≡ Some (value, rest)
      → Spells rigour declared (tokens value) ws rest
  nothing-sound {V} tokens ws rest value none h = grind (arith, Words)

  -- a value that is read behind a word, as a value of another type
  behind_word : {V W : Type 0} {reading : Words → Option (V × Words)} {more : V → List Token} (word : List ℕ)
      (f : V → W) → Reads rigour declared reading more → (tokens : W → List Token) (ws rest : Words) (value : W)
      → ((v : V) → tokens (f v) ≡ Literal word ∷ more v)
      → begins_with word ws ≡ true → option_map (λ (read : V × Words). (let p : W × Words = (f read.0, read.1) in p))
      (reading (words_behind ws)) ≡ Some (value, rest) → Spells rigour declared (tokens value) ws rest
  behind_word {V} {W} {reading} word f r tokens ws rest value is e =
      let sound = r.sound (words_behind ws) rest in grind (arith, behind-sound, led)

  -- ---- castout classes

  pub class-sound : (ws rest : Words) (class : Option ℕ) → class_at rigour ws ≡ Some (class, rest)
      → Spells rigour declared (class_tokens class) ws rest
  class-sound ws rest class h = pick h (behind_word (codes "CHANGED") (λ n. Some n) numbers_read class_tokens ws rest
      class (λ n. refl)) (grind (arith, chosen, Words, led, not_some))

  pub class-complete : (ws rest : Words) (class : Option ℕ)
      → Spells rigour declared (class_tokens class) ws rest → FindsAll rigour (class_at rigour ws) class rest
  class-complete ws rest class h = grind (arith, led-by, behind-complete, number_at-complete, Words)

  -- ---- conditions

  pub cond-sound : (ws rest : Words) (value : Option Cond)
      → cond_at rigour ws ≡ Some (value, rest) → Spells rigour declared (cond_tokens value) ws rest
  cond-sound ws rest value h = pick h (behind_word (codes "NOTHELD") (λ n. Some (NotHeld n)) numbers_read
      cond_tokens ws rest value (λ n. refl)) (λ _ k. pick k (behind_word (codes "HELDBY") (λ n. Some (HeldBy n))
      numbers_read cond_tokens ws rest value (λ n. refl)) (λ _. nothing-sound cond_tokens ws rest value refl))

  pub cond-complete : (ws rest : Words) (value : Option Cond) → free_of cond_keys rest ≡ true
      → Spells rigour declared (cond_tokens value) ws rest → FindsAll rigour (cond_at rigour ws) value rest
  cond-complete ws rest None free h = grind (arith, free-parts, Words)
  cond-complete ws rest (Some (NotHeld lock)) free h = grind (arith, led-by, behind-complete, number_at-complete)
  cond-complete ws rest (Some (HeldBy lock)) free h = grind (arith, led-by, behind-complete, number_at-complete)

  -- ---- names and keys of new records

  pub label-sound : (ws rest : Words) (value : Option Label)
      → label_at rigour ws ≡ Some (value, rest) → Spells rigour declared (label_tokens value) ws rest
  label-sound ws rest value h = pick h (behind_word (codes "NAME") (λ n. Some (Label.Name n)) names_read
      label_tokens ws rest value (λ n. refl)) (λ _ k. pick k (behind_word (codes "KEY") (λ n. Some (Label.Key n))
      keys_read label_tokens ws rest value (λ n. refl)) (λ _. nothing-sound label_tokens ws rest value refl))

  pub label-complete : (ws rest : Words) (value : Option Label) → free_of label_keys rest ≡ true
      → Spells rigour declared (label_tokens value) ws rest → FindsAll rigour (label_at rigour ws) value rest
  label-complete ws rest None free h = grind (arith, free-parts, Words)
  label-complete ws rest (Some (Label.Name name)) free h =
      let names = names_read in grind (arith, led-by, behind-complete)
  label-complete ws rest (Some (Label.Key key)) free h =
      let keys = keys_read in grind (arith, led-by, behind-complete)

  -- ---- which record

  key_at-sound : (ws rest : Words) (value : At)
      → key_at rigour ws ≡ Some (value, rest) → Spells rigour declared (at_tokens value) (codes "KEY" ∷ ws) rest
  key_at-sound ws rest value h =
      let b = bound (λ (header : ℕ × Words). option_map (λ (read : Key16 × Words). (let p : At
      × Words = (At.Key header.0 read.0, read.1) in p)) (on_first (key_of rigour) header.1)) (number_at rigour ws)
      (value, rest) h in
      let header = b.value.0 in
      let made : Key16 → At = λ k. At.Key header k in
      behind-sound rigour declared made (on_first (key_of rigour) b.value.1) at_tokens (codes "KEY" ∷ ws) rest value
      (λ k m. (
        refl,
        Spells-append rigour declared (Number 0 4294967295 header ∷ []) (Term k.0 ∷ []) ws b.value.1
            rest (number_at-sound rigour declared ws b.value.1 header b.read) (keys_read.sound b.value.1 rest k m),
      )) b.then_

  key_at-complete : (ws rest : Words) (header : ℕ) (key : Key16) → Spells rigour declared (Number
      0 4294967295 header ∷ Term key.0 ∷ []) ws rest → FindsAll rigour (key_at rigour ws) (At.Key header key) rest
  key_at-complete ws rest header key h =
      let s = Spells-split rigour declared (Number 0 4294967295 header ∷ []) (Term key.0 ∷ []) ws rest h in
      let n = number_at-complete rigour declared ws s.mid header s.front in
      let k = keys_read.complete s.mid rest key s.behind_ in
      rw n.read (grind (arith, Words))

  led_whole : (word : List ℕ) (tokens : List Token) (ws rest : Words) → begins_with word ws ≡ true
      → Spells rigour declared tokens (word ∷ words_behind ws) rest → Spells rigour declared tokens ws rest
  led_whole word tokens [] rest e h = absurd (cc)
  led_whole word tokens (w ∷ ws) rest e h = let same = word-same w word e in rw same h

  pub record-at-sound : (ws rest : Words) (value : At) → record_at rigour ws ≡ Some (value, rest)
      → Spells rigour declared (at_tokens value) ws rest
  record-at-sound ws rest value h = pick h (behind_word (codes "NAME") (λ n. At.Name n) names_read
      at_tokens ws rest value (λ n. refl)) (λ _ h. pick h (behind_word (codes "HEAD") (λ n. At.Head n)
      numbers_read at_tokens ws rest value (λ n. refl)) (λ _ h. pick h (behind_word (codes "TAIL") (λ n. At.Tail n)
      numbers_read at_tokens ws rest value (λ n. refl)) (λ _ h. pick h (λ e k. led_whole (codes "KEY")
      (at_tokens value) ws rest e (key_at-sound (words_behind ws) rest value k)) (λ _. behind-sound rigour
      declared (λ n. At.Id n) (on_first (record_of rigour) ws) at_tokens ws rest value (ids_read.sound ws rest)))))

  -- a record's id begins with `#`, so it is none of the other words
  id_apart : (c : ℕ) (word : List ℕ) (ws rest : Words) (id : EntryId) → (35 == c) ≡ false
      → Spells rigour declared (Record id ∷ []) ws rest → begins_with (c ∷ word) ws ≡ false
  id_apart c word [] rest id apart h = absurd h
  id_apart c word ([] ∷ ws) rest id apart h = refl
  id_apart c word ((b ∷ w) ∷ ws) rest id apart h = let hash : b ≡ 35 = h.0.0 in rw (hash, apart) refl

  pub record-at-complete : (ws rest : Words) (value : At) → Spells rigour declared (at_tokens value) ws rest
      → FindsAll rigour (record_at rigour ws) value rest
  record-at-complete ws rest (At.Id id) h = let ids = ids_read in grind (arith, id_apart, behind-complete)
  record-at-complete ws rest (At.Name name) h =
      let l = led-by rigour declared (codes "NAME") (Term name.0 ∷ []) ws rest h in
      let names = names_read in grind (arith, behind-complete)
  record-at-complete ws rest (At.Head header) h =
      let l = led-by rigour declared (codes "HEAD") (Number 0 4294967295 header ∷ []) ws rest h in
      let a = l.first_is (codes "NAME") in grind (arith, behind-complete, number_at-complete)
  record-at-complete ws rest (At.Tail header) h =
      let l = led-by rigour declared (codes "TAIL") (Number 0 4294967295 header ∷ []) ws rest h in
      let a = l.first_is (codes "NAME") in
      let b = l.first_is (codes "HEAD") in grind (arith, behind-complete, number_at-complete)
  record-at-complete ws rest (At.Key header key) h =
      let l = led-by rigour declared (codes "KEY") (Number 0 4294967295 header ∷ Term key.0 ∷ []) ws rest h in
      let a = l.first_is (codes "NAME") in
      let b = l.first_is (codes "HEAD") in
      let c = l.first_is (codes "TAIL") in
      let found = key_at-complete (words_behind ws) rest header key l.rest_is in grind arith
