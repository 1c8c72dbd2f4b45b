-- The words that show the bits of a machine's vectors.
use Rattle.std.specs.Prelude.{ℕ, zero, suc, ◌+◌, ◌*◌, ◌^◌, ◌&&◌, nat_lt, Bool, if◌then◌else◌}
use Rattle.cf_types.specs.declared.forms.StrForm.{StrForm}
use Rattle.cf_types.specs.declared.numbers.ConnId.{ConnId}
use Rattle.cf_types.specs.Gains.{Bits}
use Rattle.engine_api.specs.Meaning.{Meaning}
use Rattle.engine_api.specs.Machine.{Machine}

-- the word of so many bits, the first lowest
abbrev pub word_from : (ℕ → Bool) → ℕ → ℕ
word_from bits zero = 0
word_from bits (suc n) = (if bits n then 1 else 0) * 2 ^ n + word_from bits n

-- the 32 bits of a word
unfoldable pub whole_word : (ℕ → Bool) → ℕ
whole_word bits = word_from bits 32

-- the bit that a vector of so many bits shows: past its end there is none
abbrev pub bit_of : ℕ → Bits → ConnId → ℕ → Bool
bit_of len bits conn index = nat_lt index len && bits conn index

-- a word of such vectors, by connector and number
abbrev pub word_in : ℕ → Bits → ℕ → ℕ → ℕ
word_in len bits conn word = whole_word (λ k. bit_of len bits (record { 0 = conn }) (32 * word + k))

-- what the vectors of a machine show
abbrev pub shown_in : {C R I S : Type 0} → Meaning C R I S → StrForm → Machine S → ConnId → ℕ → Bool
shown_in meaning form machine conn index = bit_of form.vector (meaning.stands machine.content) conn index

abbrev pub words_in : {C R I S : Type 0} → Meaning C R I S → StrForm → Machine S → ℕ → ℕ → ℕ
words_in meaning form machine conn word = word_in form.vector (meaning.stands machine.content) conn word
