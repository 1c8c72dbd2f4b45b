-- Words that are brought to the bits that are told.
use Rattle.struct_cell.proofs.Imports.{◌≡◌, ℕ, ◌+◌, ◌*◌, ◌/◌, ◌%◌, ◌^◌, ◌<◌, ◌≤◌, ◌==◌, ◌⊎◌, inl, inr, Bool, true, false, List, [], ◌∷◌, length, get_or, set, take, fold, refl, sym, ap, ◌∙◌, subst, subst₂, arith, ◌≢◌, if◌then◌else◌, replicate, bit_at, AllByRecursion, nat_tests, same_from_bits_below, get_or-replicate, get_or-set_other, get_or_past, length-replicate, take_more, cases_lt, All-push, All-weaker, recursion_from_All, fold_push, BitChange, ConnId, Bits, Gains, bits_told, Stored, Place, word_number, words_of, IsAt, IsSpared, IsWithin, StoresEach, stores_of, SeatSeen, word_number-same, AreMirrorsOf, AreWordsOf, MirrorWords, with_told, word_at, bit_of, whole_word, word_in}
use Rattle.struct_cell.proofs.{Binary.one_if, Binary.whole-small, Binary.word_place}

-- ---- words by their bits

pub whole_alike : (f g : ℕ → Bool) → ((k : ℕ) → k < 32 → f k ≡ g k) → whole_word f ≡ whole_word g
unfolding whole_word
whole_alike f g same = grind (arith, one_if)

-- a word in which one bit was put
pub bit_put : (f : ℕ → Bool) (bits after place : ℕ) (bit : Bool) → after < 2 ^ 32 → bit_at after place ≡ one_if bit
    → ((k : ℕ) → k < 32 → k ≢ place → bit_at after k ≡ bit_at bits k) → bits ≡ whole_word f
    → after ≡ whole_word (λ k. if k == place then bit else f k)
bit_put f bits after place bit small here others was =
    same_from_bits_below 32 after (whole_word g) small (whole-small g) (
    grind (arith, nat_tests, one_if, word_place, g))
  where
    g : ℕ → Bool
    g k = if k == place then bit else f k

none_whole : whole_word (λ k. false) ≡ 0
unfolding whole_word
none_whole = grind arith

zeros : (none count i : ℕ) → get_or (replicate count none) i none ≡ none
zeros none count i = grind (arith, cases_lt, get_or-replicate, length-replicate, get_or_past)

-- words without a bit
pub words_none : (conns len count : ℕ) (words : List ℕ) → words ≡ replicate count 0
    → AreWordsOf conns len words (λ conn index. false)
words_none conns len count words is conn word some most within = grind (arith, zeros, none_whole, whole_alike)

-- ---- bits that are told

-- another word
told_apart : (len : ℕ) (bits : Bits) (change : BitChange) (conn word k : ℕ)
    → k < 32 → ¬ IsAt conn word (record { conn = change.conn; word = change.index / 32 }) → bit_of len bits
    (record { 0 = conn }) (32 * word + k) ≡ bit_of len (with_told bits change) (record { 0 = conn }) (32 * word + k)
told_apart len bits change conn word k less apart = grind (arith, nat_tests)

-- the words, once a bit is told
pub words_told : (conns len : ℕ) (old new : List ℕ) (bits : Bits) (change : BitChange) (after : ℕ) → 0 < change.conn.0
    → change.index < len → ((f : ℕ → Bool) → word_at len old change.conn.0 (change.index / 32) ≡ whole_word f
    → after ≡ whole_word (λ k. if k == change.index % 32 then change.bit else f k)) → word_at len new
    change.conn.0 (change.index / 32) ≡ after → ((conn word : ℕ) → 0 < conn → word < words_of len → ¬ IsAt conn word
    (record { conn = change.conn; word = change.index / 32 }) → word_at len new conn word ≡ word_at len old conn word)
    → AreWordsOf conns len old bits → AreWordsOf conns len new (with_told bits change)
words_told conns len old new bits change after positive below changed here others were conn word some most within =
    go (change.conn.0 == conn) refl (change.index / 32 == word) refl
  where
    else_where : ¬ IsAt conn word (record { conn = change.conn; word = change.index / 32 })
        → word_at len new conn word ≡ word_in len (with_told bits change) conn word
    else_where apart = others conn word some within apart ∙ were conn word some most within
        ∙ whole_alike _ _ (λ k less. told_apart len bits change conn word k less apart)

    go : (b : Bool) → change.conn.0 == conn ≡ b → (e : Bool) → change.index / 32 == word ≡ e
        → word_at len new conn word ≡ word_in len (with_told bits change) conn word
    go true is true at = grind (arith, nat_tests, whole_alike)
    go true is false at = grind (arith, nat_tests, else_where)
    go false is e at = grind (arith, nat_tests, else_where)

-- one bit more
pub told_more : (before : Bits) (changes : List BitChange) (i : ℕ) (d : BitChange) → i < length changes → with_told
    (fold with_told before (take i changes)) (get_or changes i d) ≡ fold with_told before (take (i + 1) changes)
told_more before changes i d below = sym (ap (fold with_told before) (take_more changes i d below)
    ∙ fold_push with_told before (take i changes) (get_or changes i d))

abbrev last_told : Bool → List Bool → Bool
last_told before told = fold (λ (was now : Bool). now) before told

folded : (changes : List BitChange) (before : Bits) (conn : ConnId) (index : ℕ)
    → fold with_told before changes conn index ≡ last_told (before conn index) (bits_told changes conn index)
folded [] before conn index = refl
folded (change ∷ changes) before conn index = grind (arith, folded changes (with_told before change) conn index)

-- all that changed
pub words_gained : (conns len : ℕ) (words : List ℕ) (before after : Bits) (changes : List BitChange) → Gains before
    after [] changes → AreWordsOf conns len words (fold with_told before changes) → AreWordsOf conns len words after
words_gained conns len words before after changes gains are conn word some most within =
    grind (arith, whole_alike, folded)

-- the same where the words are another mirror's
pub bit_taken : (old new : MirrorWords) (bits : Bits) (change : BitChange) (after : ℕ) → AreMirrorsOf old new
    → 0 < change.conn.0 → change.index < old.len → ((f : ℕ → Bool) → word_at old.len old.words change.conn.0
    (change.index / 32) ≡ whole_word f → after ≡ whole_word (λ k. if k == change.index % 32 then change.bit else f k))
    → word_at new.len new.words change.conn.0 (change.index / 32) ≡ after → ((conn word : ℕ)
    → 0 < conn → word < words_of old.len → ¬ IsAt conn word (record { conn = change.conn; word = change.index / 32 })
    → word_at new.len new.words conn word ≡ word_at old.len old.words conn word)
    → AreWordsOf old.conns old.len old.words bits → AreWordsOf new.conns new.len new.words (with_told bits change)
bit_taken old new bits change after table positive below changed here others were = subst₂ (λ (n l : ℕ). AreWordsOf n
    l new.words (with_told bits change)) (sym table.0) (sym table.1) (words_told old.conns old.len old.words new.words
    bits change after positive below changed (grind arith) (grind arith) were)

-- one word that is put in leaves the others
pub put_other : (conns len : ℕ) (words : List ℕ) (place : Place) (number bits conn word : ℕ)
    → IsWithin conns len place → number ≡ word_number len place.conn.0 place.word → 0 < conn → word < words_of len
    → ¬ IsAt conn word place → word_at len (set words number bits) conn word ≡ word_at len words conn word
put_other conns len words place number bits conn word here is some within apart =
    get_or-set_other words number (word_number len conn word) bits 0
    (λ same. (let both = word_number-same len conn place.conn.0 word place.word some here.0 within here.2 (same ∙ is) in
    apart (sym both.0, sym both.1)))

-- ---- words that are looked up

pub looked_more : (start old new : MirrorWords) (bits : ℕ → ℕ → ℕ) (places : List Place) (i : ℕ) (d : Place)
    → i < length places → AreMirrorsOf start old → word_at new.len new.words (get_or places i d).conn.0
    (get_or places i d).word ≡ bits (get_or places i d).conn.0 (get_or places i d).word → ((conn word : ℕ) → 0 < conn
    → word < words_of old.len → ¬ IsAt conn word (get_or places i d) → word_at new.len new.words conn word ≡ word_at
    old.len old.words conn word) → ((conn word : ℕ) → 0 < conn → word < words_of start.len → IsSpared (take i places)
    conn word ⊎ (word_at old.len old.words conn word ≡ bits conn word)) → (conn word : ℕ) → 0 < conn → word < words_of
    start.len → IsSpared (take (i + 1) places) conn word ⊎ (word_at new.len new.words conn word ≡ bits conn word)
looked_more start old new bits places i d below table here others was conn word some within =
    grind (arith, nat_tests, else_where)
  where
    place : Place
    place = get_or places i d

    else_where : ¬ IsAt conn word place
        → IsSpared (take (i + 1) places) conn word ⊎ (word_at new.len new.words conn word ≡ bits conn word)
    else_where apart = elim (was conn word some within) [
      | inl spared ↦ inl (subst (λ (ps : List Place). IsSpared ps conn word) (sym (take_more places i d below))
          (All-push (λ (p : Place). ¬ IsAt conn word p) (take i places) place spared apart))
      | inr is ↦ inr (others conn word some (subst (λ (n : ℕ). word < words_of n) (sym table.1) within) apart ∙ is)
    ]

-- ---- stores of them

module _ {D : Type 0} where
  stores_same : (len : ℕ) (one other : ℕ → ℕ → ℕ) (number : ℕ) (places : List Place)
      → AllByRecursion (λ place. one place.conn.0 place.word ≡ other place.conn.0 place.word) places
      → stores_of {D = D} len one number places ≡ stores_of {D = D} len other number places
  stores_same len one other number [] same = refl
  stores_same len one other number (place ∷ places) same = (λ i. Stored (word_number len place.conn.0 place.word)
      (same.0 i) number ∷ stores_same len one other number places same.1 i)

  pub stores_alike : (conns len : ℕ) (one other : ℕ → ℕ → ℕ) (named : List Place) (before after : SeatSeen D)
      → ((conn word : ℕ) → 0 < conn → conn ≤ conns → word < words_of len → one conn word ≡ other conn word)
      → StoresEach conns len one named before after → StoresEach conns len other named before after
  stores_alike conns len one other named before after same each =
      grind (arith, stores_same, recursion_from_All, All-weaker)
