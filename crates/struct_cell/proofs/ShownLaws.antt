-- What the words show after one more turn: a call, and the marks before it.
use Rattle.struct_cell.proofs.Imports.{◌≡◌, ℕ, ◌+◌, ◌/◌, ◌<◌, ◌≤◌, inl, inr, List, [], ◌∷◌, ◌++◌, length, take, sym, ap, subst, ◌∙◌, arith, cases_lt, take-append-le, StrForm, ConnId, Entry, Meaning, Machine, Turn, replay, after_turn, last_call_below, IsNumbered, added_turn, number_added, number_past, last_below-turn, last_below-past, length-turn, bits_at, Logged, Committed, Place, steps_of, word_number, bit_in, StoresEach, IsSpared, SeatSeen, bits-commit, stores-below, stores-from, shown_in, words_in, About, Shows, shown_after, shown_below}
use Rattle.std.proofs.Common.{take_all}
use Rattle.struct_cell.proofs.Binary.{whole_bit}

module _ {C R I S : Type 0} (meaning : Meaning C R I S) (form : StrForm) where
  -- ---- histories

  -- up to the next call's number nothing is different
  shown-old : (history : List (Entry C R)) (turn : Turn C) (n : ℕ) (conn : ConnId) (index : ℕ)
      → IsNumbered history → n ≤ number_added meaning form history turn → shown_below meaning
      form (after_turn meaning form history turn) n conn index ≡ shown_below meaning form history n conn index
  shown-old history turn n conn index was low =
      let behind = added_turn meaning form history turn in
      ap (λ (h : List (Entry C R)). shown_after meaning form h conn index) (ap (λ (k : ℕ). take k (after_turn meaning
      form history turn)) (last_below-turn meaning form history turn n low) ∙ ap (take (last_call_below history n))
      behind.1 ∙ take-append-le (last_call_below history n) history behind.0 (was.below n))

  shown-end : (history : List (Entry C R)) (n : ℕ) (conn : ConnId) (index : ℕ) → IsNumbered history → length
      history < n → shown_below meaning form history n conn index ≡ shown_after meaning form history conn index
  shown-end history n conn index was past = grind (arith, take_all)

  shown-new : (history : List (Entry C R)) (turn : Turn C) (n : ℕ) (conn : ConnId) (index : ℕ)
      → number_added meaning form history turn < n → shown_below meaning form (after_turn meaning form history turn)
      n conn index ≡ shown_after meaning form (after_turn meaning form history turn) conn index
  shown-new history turn n conn index past = grind (arith, number_added, length-turn, last_below-past, take_all)

  -- ---- words

  bit_of_word : (machine : Machine S) (conn : ConnId) (index : ℕ)
      → bit_in (words_in meaning form machine conn.0 (index / 32)) index ≡ shown_in meaning form machine conn index
  bit_of_word machine conn index = grind (arith, whole_bit)

  -- a call's stores, and its commit. Whatever its marks and the call itself left is in the words that are stored
  pub shows_next : (conns : ℕ) (history : List (Entry C R)) (turn : Turn C) (number : ℕ) (machine : Machine S)
      (named : List Place) (bits : ℕ → ℕ → ℕ) (before begun stored : SeatSeen (About C R)) (caller : ℕ)
      (about : About C R) → Shows meaning form conns before.log history → IsNumbered history → begun.log ≡ before.log
      → begun.number ≡ number → number ≡ number_added meaning form history turn → StoresEach conns form.vector
      bits named begun stored → ((conn word : ℕ) → bits conn word ≡ words_in meaning form machine conn word)
      → machine ≡ replay meaning form (after_turn meaning form history turn) → ((conn : ConnId) (index : ℕ)
      → 0 < conn.0 → conn.0 ≤ conns → index < form.vector → IsSpared named conn.0 (index / 32) → meaning.stands
      machine.content conn index ≡ meaning.stands (replay meaning form history).content conn index) → Shows
      meaning form conns (stored.log ++ Committed number caller about ∷ []) (after_turn meaning form history turn)
  shows_next conns history turn number machine named bits before begun stored caller about shows was same_log begins
      number_is each are machine_is kept n index conn some most below =
      let added = number_added meaning form history turn in
      let above : length history < added = number_past meaning form history turn in
      let w = word_number form.vector conn.0 (index / 32) in
      let after : shown_after meaning form (after_turn meaning form history turn) conn index
      ≡ shown_in meaning form machine conn index = grind arith in
      ap (λ (b : ℕ). bit_in b index) (bits-commit stored.log number caller about w n) ∙ elim (cases_lt n number) [
        | inl low ↦ ap (λ (b : ℕ). bit_in b index) (stores-below
            conns form.vector bits named begun stored w n each (subst (λ (k : ℕ). n < k) (sym begins) low)
            ∙ ap (λ (l : List (Logged (About C R))). bits_at (steps_of l) w n) same_log) ∙ shows n index
            conn some most below ∙ sym (shown-old history turn (n + 1) conn index was (omega (arith, low, number_is)))
        | inr high ↦ stores-from conns form.vector bits named begun stored conn.0 (index / 32)
            n (λ (b : ℕ). bit_in b index ≡ shown_in meaning form machine conn index) each some below
            (subst (λ (k : ℕ). k ≤ n) (sym begins) high) (grind (arith, bit_of_word)) (grind (arith, shown-end))
            ∙ sym after ∙ sym (shown-new history turn (n + 1) conn index (omega (arith, high, number_is)))
      ]
