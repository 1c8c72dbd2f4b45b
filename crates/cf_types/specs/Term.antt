-- Texts of term characters: names, keys, adjuncts and data are such texts.
use Rattle.std.specs.Prelude.{if◌then◌else◌, ◌≡◌, ℕ, ◌-◌, ◌≤◌, ◌<◌, Bool, IsTrue, not, ◌||◌, ◌==◌, List, ◌++◌, length, Option, Some, position, replicate, take_while}
use Rattle.std.specs.List.{list_all}
use Rattle.std.specs.Char.{is_ascii_alphanumeric}
use Rattle.cf_types.specs.declared.limits.TheConstants.{NAME_BYTES}
use Rattle.cf_types.specs.declared.names.NameFault.{NameFault}
use Rattle.cf_types.specs.declared.names.NameFault.TheVariants.{BadName, TooLong}

-- a letter, a digit, '.', '_' or '-'
abbrev pub term_byte : ℕ → Bool
term_byte b = is_ascii_alphanumeric b || b == 46 || b == 95 || b == 45

-- 1 to `limit` term characters
pub record IsTerm (limit : ℕ) (text : List ℕ) : Type 0 where
  pub nonempty : 0 < length text
  pub short : length text ≤ limit
  pub characters : IsTrue (list_all term_byte text)

-- where a text first isn't made of term characters: at 0 where it is empty
abbrev pub fault_at : List ℕ → Option ℕ
fault_at text = if length text == 0 then Some 0 else position (λ b. not (term_byte b)) text

-- which fault of a text is named: its length, where that is past the limit, before its first bad byte
abbrev pub IsFaultOf : ℕ → List ℕ → NameFault → Type 0
IsFaultOf limit text (TooLong len) = (limit < length text) × (len ≡ length text)
IsFaultOf limit text (BadName at) = (length text ≤ limit) × (fault_at text ≡ Some at)

-- names and keys have 16 bytes: the text, then blanks
abbrev pub block_of : List ℕ → List ℕ
block_of text = text ++ replicate (NAME_BYTES - length text) 32

-- the text of a name or a key of 16 bytes
abbrev pub text_in_block : List ℕ → List ℕ
text_in_block bytes = take_while (λ b. not (b == 32)) bytes

-- 16 bytes that are a name or a key
abbrev pub IsPadded : List ℕ → Type 0
IsPadded bytes = IsTerm NAME_BYTES (text_in_block bytes) × (bytes ≡ block_of (text_in_block bytes))
