-- Commands by their first words.
use Rattle.plex_spell.proofs.Imports.{arith, ◌≡◌, ℕ, Bool, true, not, ◌&&◌, List, [], ◌∷◌, Option, Some, codes, refl, ap, list_any, and_parts, Rigour, same_word, Declared, Token, Spells, Literal, Place, Values, tokens_of, values_at}
use Rattle.plex_spell.proofs.PatternLaws.{ArePlaces, keys, AreFree, are_rows, values-sound, values-complete}
use Rattle.plex_spell.proofs.{Choices.word-same, PlaceLaws.Words, PlaceLaws.FindsAll, RowLaws.free_of}

-- a command that was read behind its first word
pub verb-sound : {C : Type 0} (rigour : Rigour) (declared : Declared) (verb word : List ℕ)
    (places : List Place) (made : Values places → C) (ws rest : Words) (c : C) (P : C → Type 0) → ArePlaces places
    → ((values : Values places) → Spells rigour declared (Literal word ∷ tokens_of places values) (verb ∷ ws) rest
    → P (made values)) → same_word verb word ≡ true → values_at rigour declared places made ws ≡ Some (c, rest) → P c
verb-sound rigour declared verb word places made ws rest c P are told e h =
    let t = values-sound rigour declared places made ws rest c are h in
    rw t.same (told t.values (word-same verb word e, t.spelled))

-- ---- what may stand behind a command: nothing, or RETRY

abbrev pub is_tail : Words → Bool
is_tail [] = true
is_tail (w ∷ ws) = same_word w (codes "RETRY")

abbrev pub lacks_retry : List (List ℕ) → Bool
lacks_retry others = not (list_any (same_word (codes "RETRY")) others)

tail-free : (others : List (List ℕ)) (rest : Words) → is_tail rest ≡ true → lacks_retry others ≡ true
    → free_of others rest ≡ true
tail-free others [] h k = refl
tail-free others (w ∷ ws) h k = let same = word-same w (codes "RETRY") h in rw same k

abbrev pub all_lack_retry : List Place → Bool
all_lack_retry [] = true
all_lack_retry (place ∷ places) = lacks_retry (keys place) && all_lack_retry places

pub AreFree-tail : (places : List Place) (rest : Words) → is_tail rest ≡ true → all_lack_retry places ≡ true
    → AreFree places rest
AreFree-tail [] rest h k = tt
AreFree-tail (place ∷ places) rest h k =
    let parts = and_parts (lacks_retry (keys place)) (all_lack_retry places) k in
    (tail-free (keys place) rest h parts.0, AreFree-tail places rest h parts.1)

-- ---- what is spelled is read

-- a command with a reading of its own behind its first word
pub led-complete : {C : Type 0} (rigour : Rigour) (declared : Declared) (word : List ℕ) (tokens : List Token) (c : C)
    (ws rest : Words) (reading inner : Words → Option (C × Words)) → ((us : Words) → reading (word ∷ us) ≡ inner us)
    → ((us : Words) → Spells rigour declared tokens us rest → FindsAll rigour (inner us) c rest)
    → Spells rigour declared (Literal word ∷ tokens) ws rest → FindsAll rigour (reading ws) c rest
led-complete rigour declared word tokens c [] rest reading inner is complete h = absurd h
led-complete rigour declared word tokens c (w ∷ ws) rest reading inner is complete h = grind arith

pub command-complete : {C : Type 0} (rigour : Rigour) (declared : Declared) (word : List ℕ)
    (places : List Place) (made : Values places → C) (values : Values places) (ws rest : Words)
    → ArePlaces places → are_rows places ≡ true → AreFree places rest → (reading : Words → Option (C × Words))
    → ((us : Words) → reading (word ∷ us) ≡ values_at rigour declared places made us) → Spells
    rigour declared (Literal word ∷ tokens_of places values) ws rest → FindsAll rigour (reading ws) (made values) rest
command-complete rigour declared word places made values ws rest are rows free reading is h = led-complete rigour
    declared word (tokens_of places values) (made values) ws rest reading (values_at rigour declared places made)
    is (λ us s. let f = values-complete rigour declared places made values us rest are rows free s in
    record { found = made f.found; read = f.read; same = λ e. ap made (f.same e) }) h
