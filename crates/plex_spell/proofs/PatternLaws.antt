-- Rows of places: what a reader makes of them is what the words stand for.
use Rattle.plex_spell.proofs.Imports.{arith, ◌≡◌, ℕ, ◌<◌, ◌^◌, ◌&&◌, Bool, true, false, not, List, [], ◌∷◌, ◌++◌, Option, Some, None, refl, list_any, and_parts, ADJUNCT_BYTES, NotHeld, HeldBy, is_names, Rigour, same_word, Declared, Token, Spells, facility_of, connector_of, structure_of, Literal, Number, Short, Data, OnResource, OfConnector, OfStructure, NewFacility, NewName, references, option_tokens, flag_tokens, one_of_two, decision, lock_use, number_of, text_of, data_of, resource_of, new_name_of, connector_in, structure_in, facility_in, either_of, OfFacility, Place, Value, Values, tokens_at, tokens_of, value_at, values_at, option_at, flag_at, decision_of, lock_use_of, refs_of, Amount, AName, AKey, AShort, AData, AResource, AFacility, ANewFacility, AConnector, AStructure, ANewName, Either, ADecision, ALockUse, SomeRefs, AClass, ARecord, ACond, ALabel, AFlag, AnOption, Behind, behind_at, Label}
use Rattle.plex_spell.proofs.Choices.{chosen, not_some, bound}
use Rattle.plex_spell.proofs.WordLaws.{number-sound, number-complete, text-sound, text-complete, new_name-sound, new_name-complete, declared-sound, declared-complete, facility-sound, facility-complete}
use Rattle.plex_spell.proofs.CutLaws.{resource-sound, resource-complete, data-sound, data-complete}
use Rattle.plex_spell.proofs.PlaceLaws.{Words, FindsAll, Spells-append, Spells-split, Reads, one_word, either-sound, either-complete, decision-sound, decision-complete, lock_use-sound, lock_use-complete, refs-sound, refs-complete, led, led-by, behind-sound, behind-complete}
use Rattle.plex_spell.proofs.RowLaws.{free_of, free-parts, cond_keys, label_keys, names_read, keys_read, nothing-sound, class-sound, class-complete, cond-sound, cond-complete, label-sound, label-complete, record-at-sound, record-at-complete}

-- ---- one place

-- the words that options of a place begin with
abbrev pub keys : Place → List (List ℕ)
keys ACond = cond_keys
keys ALabel = label_keys
keys (AFlag word) = word ∷ []
keys (AnOption word place) = word ∷ []
keys place = []

-- numbers of a place have 64 bits at most, and two words of a choice are not the same
abbrev pub IsPlace : Place → Type 0
IsPlace (Amount low high) = high < 2 ^ 64
IsPlace (Either first second) = same_word second first ≡ false
IsPlace (AnOption word place) = IsPlace place
IsPlace (Behind word place) = IsPlace place
IsPlace place = Unit {0}

-- behind a word of a place stands no option
abbrev pub AreFixed : Place → Type 0
AreFixed (AnOption word place) = (keys place ≡ []) × AreFixed place
AreFixed (Behind word place) = (keys place ≡ []) × AreFixed place
AreFixed place = Unit {0}

free_none : (ws : Words) → free_of [] ws ≡ true
free_none [] = refl
free_none (w ∷ ws) = refl

module _ (rigour : Rigour) (declared : Declared) where
  flag-sound : (word : List ℕ) (ws rest : Words) (given : Bool) → flag_at word ws ≡ Some (given, rest)
      → Spells rigour declared (flag_tokens word given) ws rest
  flag-sound word ws rest given h = grind (arith, chosen, led, Words)

  flag-complete : (word : List ℕ) (ws rest : Words) (given : Bool) → free_of (word ∷ []) rest ≡ true
      → Spells rigour declared (flag_tokens word given) ws rest → FindsAll rigour (flag_at word ws) given rest
  flag-complete word ws rest false free h = grind (arith, free-parts, Words)
  flag-complete word ws rest true free h =
      let l = led-by rigour declared word [] ws rest h in
      rw l.begins (grind (arith, Words))

  option-sound : {V : Type 0} (word : List ℕ) (reading : Words → Option (V × Words)) (tokens : V → List Token)
      → ((ws rest : Words) (v : V) → reading ws ≡ Some (v, rest) → Spells rigour declared (tokens v) ws rest)
      → (ws rest : Words) (value : Option V) → option_at word reading ws ≡ Some (value, rest)
      → Spells rigour declared (option_tokens word tokens value) ws rest
  option-sound {V} word reading tokens sound ws rest value h =
      grind (arith, chosen, Words, behind-sound, led, nothing-sound)

  option-complete : {V : Type 0} (word : List ℕ) (reading : Words → Option (V × Words)) (tokens : V → List Token)
      → ((ws rest : Words) (v : V) → Spells rigour declared (tokens v) ws rest → FindsAll rigour (reading ws) v rest)
      → (ws rest : Words) (value : Option V) → free_of (word ∷ []) rest ≡ true → Spells rigour
      declared (option_tokens word tokens value) ws rest → FindsAll rigour (option_at word reading ws) value rest
  option-complete {V} word reading tokens complete ws rest None free h = grind (arith, free-parts, Words)
  option-complete {V} word reading tokens complete ws rest (Some v) free h = grind (arith, led-by, behind-complete)

  behind-at-sound : {V : Type 0} (word : List ℕ) (reading : Words → Option (V × Words)) (tokens : V → List Token)
      → ((ws rest : Words) (v : V) → reading ws ≡ Some (v, rest) → Spells rigour declared (tokens v) ws rest)
      → (ws rest : Words) (v : V) → behind_at word reading ws ≡ Some (v, rest)
      → Spells rigour declared (Literal word ∷ tokens v) ws rest
  behind-at-sound {V} word reading tokens sound ws rest v h = grind (arith, chosen, Words, led, not_some)

  behind-at-complete : {V : Type 0} (word : List ℕ) (reading : Words → Option (V × Words)) (tokens : V → List Token)
      → ((ws rest : Words) (v : V) → Spells rigour declared (tokens v) ws rest → FindsAll rigour (reading ws) v rest)
      → (ws rest : Words) (v : V) → Spells rigour declared (Literal word ∷ tokens v) ws rest
      → FindsAll rigour (behind_at word reading ws) v rest
  behind-at-complete {V} word reading tokens complete ws rest v h = grind (arith, led-by, Words)

  -- a reading at a place makes of words what they stand for, and misses nothing where no option follows
  record ReadsPlace (place : Place) : Type 0 where
    sound : (ws rest : Words) (v : Value place) → value_at rigour declared place ws ≡ Some (v, rest)
        → Spells rigour declared (tokens_at place v) ws rest
    complete : (ws rest : Words) (v : Value place) → AreFixed place → free_of (keys place) rest ≡ true → Spells
        rigour declared (tokens_at place v) ws rest → FindsAll rigour (value_at rigour declared place ws) v rest

  always : (place : Place) → Reads rigour declared (value_at rigour declared place) (tokens_at place)
      → ReadsPlace place
  always place r = record { sound = r.sound; complete = λ ws rest v fixed free. r.complete ws rest v }

  values_read : (place : Place) → IsPlace place → ReadsPlace place
  values_read (Amount low high) is = always (Amount low high) (one_word rigour declared (number_of rigour low high)
      (Number low high) (number-sound rigour low high is) (number-complete rigour low high is))
  values_read AName is = always AName (names_read rigour declared)
  values_read AKey is = always AKey (keys_read rigour declared)
  values_read AShort is = always AShort (one_word rigour declared (text_of rigour ADJUNCT_BYTES) Short
      (text-sound rigour ADJUNCT_BYTES) (text-complete rigour ADJUNCT_BYTES))
  values_read AData is =
      always AData (one_word rigour declared (data_of rigour) Data (data-sound rigour) (data-complete rigour))
  values_read AResource is = always AResource
      (one_word rigour declared (resource_of rigour) OnResource (resource-sound rigour) (resource-complete rigour))
  values_read AFacility is = always AFacility (one_word rigour declared (facility_in rigour declared) OfFacility
      (facility-sound rigour declared) (facility-complete rigour declared))
  values_read ANewFacility is = always ANewFacility (one_word rigour declared facility_of NewFacility (λ w v e. e)
      (λ w v e. record { found = v; read = e; same = λ _. refl }))
  values_read AConnector is = always AConnector (one_word rigour declared (connector_in rigour declared) OfConnector
      (λ w. declared-sound rigour w (connector_of declared.connectors w) (record { 0 = 0 }))
      (λ w. declared-complete rigour w (connector_of declared.connectors w) (record { 0 = 0 })))
  values_read AStructure is = always AStructure (one_word rigour declared (structure_in rigour declared) OfStructure
      (λ w. declared-sound rigour w (structure_of declared.structures w) (record { 0 = 0 }))
      (λ w. declared-complete rigour w (structure_of declared.structures w) (record { 0 = 0 })))
  values_read ANewName is = always ANewName (one_word rigour
      declared (new_name_of rigour) NewName (new_name-sound rigour) (λ w v e. new_name-complete rigour w v e.0 e.1))
  values_read (Either first second) is = always (Either first second)
      (one_word rigour declared (either_of first second) (one_of_two first second)
      (either-sound rigour declared first second) (either-complete rigour declared first second is))
  values_read ADecision is = always ADecision (one_word rigour declared decision_of decision
      (decision-sound rigour declared) (decision-complete rigour declared))
  values_read ALockUse is = always ALockUse (one_word rigour declared lock_use_of lock_use
      (lock_use-sound rigour declared) (lock_use-complete rigour declared))
  values_read SomeRefs is = always SomeRefs
      (one_word rigour declared refs_of references (refs-sound rigour declared) (refs-complete rigour declared))
  values_read AClass is =
      always AClass (record { sound = class-sound rigour declared; complete = class-complete rigour declared })
  values_read ARecord is =
      always ARecord (record { sound = record-at-sound rigour declared; complete = record-at-complete rigour declared })
  values_read ACond is = record {
    sound = cond-sound rigour declared;
    complete = λ ws rest v fixed. cond-complete rigour declared ws rest v;
  }
  values_read ALabel is = record {
    sound = label-sound rigour declared;
    complete = λ ws rest v fixed. label-complete rigour declared ws rest v;
  }
  values_read (AFlag word) is =
      record { sound = flag-sound word; complete = λ ws rest v fixed. flag-complete word ws rest v }
  values_read (AnOption word place) is = let r = values_read place is in record {
    sound = option-sound word (value_at rigour declared place) (tokens_at place) r.sound;
    complete = λ ws rest v fixed. option-complete word (value_at rigour declared place) (tokens_at place)
        (λ us more x. r.complete us more x fixed.1 (rw fixed.0 (free_none more))) ws rest v;
  }
  values_read (Behind word place) is = let r = values_read place is in record {
    sound = behind-at-sound word (value_at rigour declared place) (tokens_at place) r.sound;
    complete = λ ws rest v fixed free. behind-at-complete word (value_at rigour declared place) (tokens_at place)
        (λ us more x. r.complete us more x fixed.1 (rw fixed.0 (free_none more))) ws rest v;
  }

  pub value-sound : (place : Place) (ws rest : Words) (v : Value place) → IsPlace place
      → value_at rigour declared place ws ≡ Some (v, rest) → Spells rigour declared (tokens_at place v) ws rest
  value-sound place ws rest v is h = (values_read place is).sound ws rest v h

  pub value-complete : (place : Place) (ws rest : Words) (v : Value place) → IsPlace place → AreFixed place
      → free_of (keys place) rest ≡ true → Spells rigour declared (tokens_at place v) ws rest
      → FindsAll rigour (value_at rigour declared place ws) v rest
  value-complete place ws rest v is fixed free h = (values_read place is).complete ws rest v fixed free h

-- ---- rows

-- places of options alone, none of which begins with one of these words
abbrev pub is_apart : List (List ℕ) → List (List ℕ) → Bool
is_apart others [] = false
is_apart others (key ∷ []) = not (list_any (same_word key) others)
is_apart others (key ∷ next ∷ more) = not (list_any (same_word key) others) && is_apart others (next ∷ more)

abbrev pub are_apart : List (List ℕ) → List Place → Bool
are_apart [] places = true
are_apart (key ∷ others) [] = true
are_apart (key ∷ others) (place ∷ places) = is_apart (key ∷ others) (keys place) && are_apart (key ∷ others) places

abbrev pub are_rows : List Place → Bool
are_rows [] = true
are_rows (place ∷ places) = are_apart (keys place) places && are_rows places

abbrev pub ArePlaces : List Place → Type 0
ArePlaces [] = Unit {0}
ArePlaces (place ∷ places) = IsPlace place × AreFixed place × ArePlaces places

-- none of the words that options begin with
abbrev pub AreFree : List Place → Words → Type 0
AreFree [] rest = Unit {0}
AreFree (place ∷ places) rest = (free_of (keys place) rest ≡ true) × AreFree places rest

pub record Told {C : Type 0} (rigour : Rigour) (declared : Declared) (places : List Place) (made : Values places → C)
    (ws rest : Words) (c : C) : Type 0 where
  pub values : Values places
  pub same : c ≡ made values
  pub spelled : Spells rigour declared (tokens_of places values) ws rest

pub record FindsRow {C : Type 0} (rigour : Rigour) (reading : Option (C × Words)) (places : List Place)
    (made : Values places → C) (values : Values places) (rest : Words) : Type 0 where
  pub found : Values places
  pub read : reading ≡ Some (made found, rest)
  pub same : is_names rigour ≡ true → found ≡ values

module _ (rigour : Rigour) (declared : Declared) where
  pub values-sound : {C : Type 0} (places : List Place) (made : Values places → C) (ws rest : Words) (c : C)
      → ArePlaces places → values_at rigour declared places made ws ≡ Some (c, rest)
      → Told rigour declared places made ws rest c
  values-sound {C} [] made ws rest c are h = grind (arith, Words)
  values-sound {C} (place ∷ places) made ws rest c are h =
      let b = bound (λ (read : Value place × Words). values_at rigour
      declared places (λ values. made (read.0, values)) read.1) (value_at rigour declared place ws) (c, rest) h in
      let v = b.value.0 in
      let more = values-sound places (λ values. made (v, values)) b.value.1 rest c are.2 b.then_ in
      record {
        values = (v, more.values);
        same = more.same;
        spelled = Spells-append rigour declared (tokens_at place v) (tokens_of places more.values) ws b.value.1 rest
            (value-sound rigour declared place ws b.value.1 v are.0 b.read) more.spelled;
      }

  begun : (others : List (List ℕ)) (key : List ℕ) (tokens : List Token) (ws rest : Words)
      → not (list_any (same_word key) others) ≡ true → Spells rigour declared (Literal key ∷ tokens) ws rest
      → free_of others ws ≡ true
  begun others key tokens [] rest h k = absurd k
  begun others key tokens (w ∷ ws) rest h k = let same : w ≡ key = k.0 in rw same h

  -- nothing, or the first word of an option's words
  at_start : (others : List (List ℕ)) (place : Place) (v : Value place) (us : List Token) (ws rest : Words)
      → is_apart others (keys place) ≡ true → (Spells rigour declared us ws rest → free_of others ws ≡ true)
      → Spells rigour declared (tokens_at place v ++ us) ws rest → free_of others ws ≡ true
  at_start others ACond None us ws rest h go k = go k
  at_start others ACond (Some (NotHeld lock)) us ws rest h go k = grind (arith, begun, and_parts)
  at_start others ACond (Some (HeldBy lock)) us ws rest h go k = grind (arith, begun, and_parts)
  at_start others ALabel None us ws rest h go k = go k
  at_start others ALabel (Some (Label.Name name)) us ws rest h go k = grind (arith, begun, and_parts)
  at_start others ALabel (Some (Label.Key key)) us ws rest h go k = grind (arith, begun, and_parts)
  at_start others (AFlag word) false us ws rest h go k = go k
  at_start others (AFlag word) true us ws rest h go k = begun others word us ws rest h k
  at_start others (AnOption word place) None us ws rest h go k = go k
  at_start others (AnOption word place) (Some v) us ws rest h go k = grind (arith, begun)
  at_start others place v us ws rest h go k = absurd (cc)

  keys-free : (others : List (List ℕ)) (places : List Place) (values : Values places) (ws rest : Words)
      → are_apart others places ≡ true → free_of others rest ≡ true
      → Spells rigour declared (tokens_of places values) ws rest → free_of others ws ≡ true
  keys-free [] places values ws rest h free k = free_none ws
  keys-free (key ∷ others) [] values ws rest h free k = rw k free
  keys-free (key ∷ others) (place ∷ places) values ws rest h free k =
      let parts = and_parts (is_apart (key ∷ others) (keys place)) (are_apart (key ∷ others) places) h in
      at_start (key ∷ others) place values.0 (tokens_of places values.1) ws rest parts.0
      (keys-free (key ∷ others) places values.1 ws rest parts.1 free) k

  pub values-complete : {C : Type 0} (places : List Place) (made : Values places → C) (values : Values places)
      (ws rest : Words) → ArePlaces places → are_rows places ≡ true → AreFree places rest
      → Spells rigour declared (tokens_of places values) ws rest
      → FindsRow rigour (values_at rigour declared places made ws) places made values rest
  values-complete {C} [] made values ws rest are rows free h = grind (arith, Words)
  values-complete {C} (place ∷ places) made values ws rest are rows free h =
      let s = Spells-split rigour declared (tokens_at place values.0) (tokens_of places values.1) ws rest h in
      let parts = and_parts (are_apart (keys place) places) (are_rows places) rows in
      let clear = keys-free (keys place) places values.1 s.mid rest parts.0 free.0 s.behind_ in
      let v = value-complete rigour declared place ws s.mid values.0 are.0 are.1 clear s.front in
      let more = values-complete places (λ others. made (v.found, others)) values.1 s.mid rest are.2 parts.1 free.1
      s.behind_ in
      rw v.read (record {
        found = (v.found, more.found);
        read = more.read;
        same = grind arith;
      })
