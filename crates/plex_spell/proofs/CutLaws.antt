-- Words of two parts: data that are repeated, and resources.
use Rattle.plex_spell.proofs.Imports.{◌≡◌, ℕ, ◌<◌, ◌≤◌, ◌+◌, ◌*◌, ◌==◌, Bool, true, false, not, nat_lt, nat_le, List, [], ◌∷◌, ◌++◌, length, get_or, take, drop, Option, Some, None, option_map, refl, sym, ap, ◌∙◌, arith, inl, inr, lit<, decimal, list_all, repeat, before_first, after_first, position_or_len, take_while, and_parts, and_from, or_right, nat_tests, take_while-cons, split_at_first, passes_at_first, Name16, Resource, term_byte, Rigour, Form, IsCut, AtLimits, IsNumber, IsRepeated, IsData, IsResource, is_term, ◌>>=◌, within_limits, number_of, text_of, name_of, stands_in, repeated_of, data_of, resource_in, resource_of}
use Rattle.plex_spell.proofs.Choices.{chosen, not_some, mapped, bound}
use Rattle.plex_spell.proofs.TextLaws.{any-place, characters-term, length-repeat}
use Rattle.plex_spell.proofs.WordLaws.{Finds, kept_value, kept_finds, at_limits-map, at_limits-both, number-sound, number-complete, number-strict, text-sound, text-complete, name-sound, name-complete, le_true, true_le}

abbrev is_free : ℕ → List ℕ → Bool
is_free at word = list_all (λ b. not (b == at)) word

-- ---- where a byte first stands

list_all-take_while : (q : ℕ → Bool) (xs : List ℕ) → list_all q (take_while q xs) ≡ true
list_all-take_while q [] = refl
list_all-take_while q (x ∷ xs) = grind (arith, take_while-cons, and_from, list_all-take_while q xs)

pub IsCut-stands : (at : ℕ) (word : List ℕ) → stands_in at word ≡ true
    → IsCut at word (before_first (λ b. b == at) word) (after_first (λ b. b == at) word)
IsCut-stands at word h =
    let p = λ (b : ℕ). b == at in
    let i = position_or_len p word in
    let within : nat_lt i (length word) ≡ true = sym (any-place p word) ∙ h in
    let lt : i < length word = grind (arith, nat_tests) in
    let passes : (get_or word i 0 == at) ≡ true = passes_at_first p word 0 lt in
    let found : get_or word i 0 ≡ at = grind (arith, nat_tests) in
    record {
      whole = split_at_first p word 0 lt ∙ ap (λ (b : ℕ). take i word ++ b ∷ drop (i + 1) word) found;
      first = list_all-take_while (λ b. not (b == at)) word;
    }

pub not_free-middle : (at : ℕ) (xs ys : List ℕ) → is_free at (xs ++ at ∷ ys) ≡ true → ⊥
not_free-middle at [] ys h = grind (arith, nat_tests, and_parts)
not_free-middle at (x ∷ xs) ys h = not_free-middle at xs ys (and_parts (not (x == at)) (is_free at (xs ++ at ∷ ys))
    h).1

pub same_cut : (at : ℕ) (a b c d : List ℕ) → is_free at a ≡ true → is_free at c ≡ true → a ++ at ∷ b ≡ c ++ at ∷ d
    → (a ≡ c) × (b ≡ d)
same_cut at [] b [] d free_a free_c e = (refl, cc)
same_cut at [] b (y ∷ c) d free_a free_c e = grind (arith, not_free-middle)
same_cut at (x ∷ a) b [] d free_a free_c e = grind (arith, not_free-middle)
same_cut at (x ∷ a) b (y ∷ c) d free_a free_c e =
    let more = same_cut at a b c d (and_parts (not (x == at)) (is_free at a) free_a).1
    (and_parts (not (y == at)) (is_free at c) free_c).1 (cc) in
    (cc (more.0), more.1)

stands-middle : (at : ℕ) (xs ys : List ℕ) → stands_in at (xs ++ at ∷ ys) ≡ true
stands-middle at [] ys = grind (arith, nat_tests)
stands-middle at (x ∷ xs) ys = grind (arith, or_right, stands-middle at xs ys)

-- a cut is the one that a reader makes
pub record Parts (at : ℕ) (word before after : List ℕ) : Type 0 where
  pub stands : stands_in at word ≡ true
  pub before_is : before_first (λ b. b == at) word ≡ before
  pub after_is : after_first (λ b. b == at) word ≡ after

pub parts-IsCut : (at : ℕ) (word before after : List ℕ) → IsCut at word before after → Parts at word before after
parts-IsCut at word before after h =
    let stands : stands_in at word ≡ true = rw h.whole (stands-middle at before after) in
    let made = IsCut-stands at word stands in
    let same = same_cut at (before_first (λ b. b == at) word) (after_first (λ b. b == at) word) before after
    made.first h.first (sym made.whole ∙ h.whole) in
    record { stands = stands; before_is = same.0; after_is = same.1 }

-- ---- resources

pub resource-sound : (rigour : Rigour) (word : List ℕ) (r : Resource) → resource_of rigour word ≡ Some r
    → IsResource rigour r word
resource-sound rigour word r h = chosen (stands_in 64 word) (resource_in rigour (before_first (λ b. b == 64) word)
    (after_first (λ b. b == 64) word)) None r (λ stands read. from_parts (before_first (λ b. b == 64) word)
    (after_first (λ b. b == 64) word) (IsCut-stands 64 word stands) read) (λ _ none. not_some r none) h
  where
    from_parts : (name hash : List ℕ) → IsCut 64 word name hash → resource_in rigour name hash ≡ Some r
        → IsResource rigour r word
    from_parts name hash cut read =
        let b = bound (λ (n : Name16). option_map (λ (k : ℕ). (let res : Resource = record { name = n; hash = k }
        in res)) (number_of rigour 0 4294967295 hash)) (name_of rigour name) r read in
        let m = mapped (λ (k : ℕ). (let res : Resource = record { name = b.value; hash = k } in res))
        (number_of rigour 0 4294967295 hash) r b.then_ in
        let n = name-sound rigour name b.value b.read in
        let same_name : b.value ≡ r.name = ap (λ (res : Resource). res.name) m.made in
        let same_hash : m.value ≡ r.hash = ap (λ (res : Resource). res.hash) m.made in
        record {
          name = name;
          hash = hash;
          cut = cut;
          named = grind (arith, at_limits-map);
          padded = grind (arith, at_limits-map);
          numeral = rw (← same_hash) (number-sound rigour 0 4294967295 (lit< tt) hash m.value m.read);
        }

pub resource-complete : (rigour : Rigour) (word : List ℕ) (r : Resource) → IsResource rigour r word
    → Finds rigour (resource_of rigour word) r
resource-complete rigour word r h =
    let p = parts-IsCut 64 word h.name h.hash h.cut in
    let n = name-complete rigour h.name r.name (h.named.0, (grind (arith, at_limits-both, at_limits-map))) in
    let k = number-complete rigour 0 4294967295 (lit< tt) h.hash r.hash h.numeral in
    grind arith

-- ---- data

star_free : (word : List ℕ) → list_all term_byte word ≡ true → stands_in 42 word ≡ false
star_free [] h = refl
star_free (b ∷ word) h =
    let parts = and_parts (term_byte b) (list_all term_byte word) h in
    grind (arith, nat_tests, star_free word parts.1)

pub data-sound : (rigour : Rigour) (word text : List ℕ) → data_of rigour word ≡ Some text → IsData rigour text word
data-sound rigour word text h = chosen (stands_in 42 word) (repeated_of
    rigour (before_first (λ b. b == 42) word) (after_first (λ b. b == 42) word)) (text_of rigour 4096 word)
    text (λ stands read. inr (from_parts (before_first (λ b. b == 42) word) (after_first (λ b. b == 42) word)
    (IsCut-stands 42 word stands) read)) (λ _ read. inl (text-sound rigour 4096 word text read)) h
  where
    from_parts : (piece times : List ℕ) → IsCut 42 word piece times → repeated_of rigour piece times ≡ Some text
        → IsRepeated rigour text word
    from_parts piece times cut read =
        let kept_text : ℕ → Option (List ℕ) =
        λ n. within_limits rigour (nat_le (n * length piece) 4096) (repeat n piece) (take 1 piece) in
        chosen (is_term piece) (number_of rigour 1 4096 times >>= kept_text) None text (λ term made.
        let b = bound kept_text (number_of rigour 1 4096 times) text made in
        let n = b.value in
        record {
          piece = piece;
          times = times;
          cut = cut;
          term = term;
          count = n;
          numeral = number-sound rigour 1 4096 (lit< tt) times n b.read;
          whole = kept_value rigour (nat_le (n * length piece) 4096) (repeat n piece) (take 1 piece) text (Unit {0})
              (λ (t : List ℕ). (t ≡ repeat n piece) × (length t ≤ 4096)) tt
              (λ fits. (refl, omega (arith, length-repeat n piece, true_le (n * length piece) 4096 fits))) b.then_;
        }) (λ _ none. not_some text none) read

repeated-strict : (rigour : Rigour) (text piece times : List ℕ) (count : ℕ) → is_term piece ≡ true
    → times ≡ decimal count → 1 ≤ count → count ≤ 4096
    → text ≡ repeat count piece → length text ≤ 4096 → Finds rigour (repeated_of rigour piece times) text
repeated-strict rigour text piece times count term e low high is short =
    let n = number-strict rigour 1 4096 times count (lit< tt) e low high in
    let len : length text ≡ count * length piece = ap length is ∙ length-repeat count piece in
    let fits = le_true (count * length piece) 4096 (omega (arith, len, short)) in
    record { found = text; read = rw (term, n, fits) (ap Some (sym is)); same = λ _. refl }

repeated-complete : (rigour : Rigour) (text piece times : List ℕ) (count : ℕ)
    → is_term piece ≡ true → IsNumber rigour 1 4096 count times → AtLimits rigour (Unit {0})
    ((text ≡ repeat count piece) × (length text ≤ 4096)) → Finds rigour (repeated_of rigour piece times) text
repeated-complete Form text piece times count term numeral whole =
    let n = number-complete Form 1 4096 (lit< tt) times count numeral in
    rw (term, n.read) (kept_finds Form (nat_le (n.found * length piece) 4096) (repeat n.found piece) (take 1 piece)
    text (Unit {0}) ⊥ (λ x. absurd x) tt)
repeated-complete rigour text piece times count term numeral whole =
    repeated-strict rigour text piece times count term numeral.1.0 numeral.1.1 numeral.1.2 whole.0 whole.1

pub data-complete : (rigour : Rigour) (word text : List ℕ) → IsData rigour text word
    → Finds rigour (data_of rigour word) text
data-complete rigour word text (inl h) = rw (star_free word (characters-term word h.0))
    (text-complete rigour 4096 word text h)
data-complete rigour word text (inr h) =
    let p = parts-IsCut 42 word h.piece h.times h.cut in
    rw (p.stands, p.before_is, p.after_is) (repeated-complete rigour text h.piece h.times h.count h.term h.numeral
    h.whole)
