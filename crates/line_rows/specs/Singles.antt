-- Values of one word.
use Rattle.std.specs.Prelude.{ℕ, ◌≤◌, Bool, List, [], ◌∷◌, ◌++◌, Option, None, Some, option_map, if◌then◌else◌}
use Rattle.std.specs.List.{before_first, after_first}
use Rattle.std.specs.Fmt.{decimal}
use Rattle.std.specs.Prelude.{◌==◌}
use Rattle.cf_types.specs.declared.names.Name16.{Name16}
use Rattle.cf_types.specs.declared.names.Key16.{Key16}
use Rattle.cf_types.specs.declared.numbers.CfId.{CfId}
use Rattle.cf_types.specs.declared.numbers.ConnId.{ConnId}
use Rattle.cf_types.specs.Term.{IsPadded, text_in_block}
use Rattle.plex_spell.specs.declared.rigour.Rigour.TheVariants.{Names}
use Rattle.plex_spell.specs.Words.{same_word}
use Rattle.plex_spell.specs.Tokens.{name_word, facility_of, connector_of}
use Rattle.plex_spell.specs.Places.{◌>>=◌, number_of, text_of, name_of, key_of, stands_in}
use Rattle.plex_spell.specs.Patterns.{either_of}
use Rattle.plex_plain.specs.Naming.{facility_word, caller_name}
use Rattle.line_rows.specs.Rows.{Single}

abbrev pub number : ℕ → Single ℕ
number high = record { word = decimal; value = number_of Names 0 high }

abbrev pub IsNumber : ℕ → ℕ → Type 0
IsNumber high n = n ≤ high

abbrev pub text : ℕ → Single (List ℕ)
text limit = record { word = λ t. t; value = text_of Names limit }

abbrev pub a_name : Single Name16
a_name = record { word = name_word; value = name_of Names }

abbrev pub IsAName : Name16 → Type 0
IsAName name = IsPadded name.0

abbrev pub a_key : Single Key16
a_key = record { word = λ key. text_in_block key.0; value = key_of Names }

abbrev pub IsAKey : Key16 → Type 0
IsAKey key = IsPadded key.0

abbrev pub a_facility : Single CfId
a_facility = record { word = facility_word; value = facility_of }

abbrev pub a_connector : List Name16 → Single ConnId
a_connector connectors = record { word = λ conn. caller_name connectors conn.0; value = connector_of connectors }

-- a value behind a byte
abbrev pub value_behind : {V : Type 0} → ℕ → Single V → List ℕ → Option V
value_behind at one [] = None
value_behind at one (b ∷ word) = if b == at then one.value word else None

abbrev pub marked : {V : Type 0} → ℕ → Single V → Single V
marked at one = record { word = λ n. at ∷ one.word n; value = value_behind at one }

-- the first word for true, the second for false
abbrev pub either : List ℕ → List ℕ → Single Bool
either first second = record { word = λ b. if b then first else second; value = either_of first second }

-- a value or a word in its place
abbrev pub word_or : {V : Type 0} → List ℕ → Single V → Option V → List ℕ
word_or none one None = none
word_or none one (Some v) = one.word v

abbrev pub or_word : {V : Type 0} → List ℕ → Single V → Single (Option V)
or_word none one = record {
  word = word_or none one;
  value = λ w. if same_word w none then Some None else option_map (λ v. Some v) (one.value w);
}

-- two values with a byte between them
abbrev pub joined : {A B : Type 0} → ℕ → Single A → Single B → Single (A × B)
joined at one other = record {
  word = λ v. (one.word v.0 ++ at ∷ []) ++ other.word v.1;
  value = λ w. if stands_in at w
      then one.value (before_first (λ b. b == at) w)
      >>= (λ a. option_map (λ b. (a, b)) (other.value (after_first (λ b. b == at) w)))
      else None;
}

-- the same word for another type
abbrev pub as_one : {A B : Type 0} → (B → A) → (A → B) → Single A → Single B
as_one to make one = record { word = λ b. one.word (to b); value = λ w. option_map make (one.value w) }

-- one of these values, each with its word
abbrev pub spelled_of : {V : Type 0} → (V → List ℕ) → List V → List ℕ → Option V
spelled_of word [] w = None
spelled_of word (v ∷ vs) w = if same_word w (word v) then Some v else spelled_of word vs w

abbrev pub spelled : {V : Type 0} → (V → List ℕ) → List V → Single V
spelled word all = record { word = word; value = spelled_of word all }
