-- Forms of commands: a table of them serves reading, and tells which tokens say a command.
use Rattle.std.specs.Prelude.{◌≡◌, ℕ, List, ◌∷◌, ◌⊎◌, Option, None, if◌then◌else◌}
use Rattle.plex_spell.specs.declared.rigour.Rigour.{Rigour}
use Rattle.plex_spell.specs.Words.{begins_with, words_behind}
use Rattle.plex_spell.specs.Tokens.{Declared, Token}
use Rattle.plex_spell.specs.Tokens.Token.{Literal}
use Rattle.plex_spell.specs.Patterns.{Place, Values, values_at, tokens_of}

-- the forms of some commands, one after another: a verb, the places behind it and what is made of their values; or
-- a verb with forms behind it
pub data Forms (C : Type 0) : Type 0 where
  NoForms : Forms C
  Row : (verb : List ℕ) (places : List Place) (made : Values places → C) (more : Forms C) → Forms C
  Under : (verb : List ℕ) (behind_ more : Forms C) → Forms C

-- a form in front of others, so that a table has a form a line
infixr 5 ◌or◌
abbrev pub ◌or◌ : {C : Type 0} → (Forms C → Forms C) → Forms C → Forms C
form or more = form more

-- the same forms, of which something else is made
unfoldable pub each_made : {C D : Type 0} → (C → D) → Forms C → Forms D
each_made f NoForms = NoForms
each_made f (Row verb places made more) = Row verb places (λ values. f (made values)) (each_made f more)
each_made f (Under verb behind_ more) = Under verb (each_made f behind_) (each_made f more)

-- reading: what the form with the first word makes of the words behind it
abbrev pub command_at : {C : Type 0} → Rigour → Declared → Forms C → List (List ℕ) → Option (C × List (List ℕ))
command_at rigour declared NoForms words = None
command_at rigour declared (Row verb places made more) words =
    if begins_with verb words then values_at rigour declared places made (words_behind words)
    else command_at rigour declared more words
command_at rigour declared (Under verb behind_ more) words =
    if begins_with verb words then command_at rigour declared behind_ (words_behind words)
    else command_at rigour declared more words

-- saying: the verb, and the tokens of any values of which the command is made
pub record IsRow {C : Type 0} (verb : List ℕ) (places : List Place) (made : Values places → C) (cmd : C)
    (tokens : List Token) : Type 0 where
  pub values : Values places
  pub same : made values ≡ cmd
  pub said : tokens ≡ Literal verb ∷ tokens_of places values

pub record IsUnder (verb : List ℕ) (Says : List Token → Type 0) (tokens : List Token) : Type 0 where
  pub later : List Token
  pub says : Says later
  pub said : tokens ≡ Literal verb ∷ later

abbrev pub IsSaid : {C : Type 0} → Forms C → C → List Token → Type 0
IsSaid NoForms cmd tokens = ⊥
IsSaid (Row verb places made more) cmd tokens = IsRow verb places made cmd tokens ⊎ IsSaid more cmd tokens
IsSaid (Under verb behind_ more) cmd tokens = IsUnder verb (IsSaid behind_ cmd) tokens ⊎ IsSaid more cmd tokens
