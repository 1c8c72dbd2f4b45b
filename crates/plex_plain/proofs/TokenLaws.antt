-- The words that lists of tokens are printed as.
use Rattle.plex_plain.proofs.Imports.{arith, ◌≡◌, ℕ, List, [], ◌∷◌, ◌++◌, Option, None, Some, refl, map-append, Token, all_tokens, option_tokens, Name16, plain_words, told_words}

pub words_option : {X : Type 0} (connectors : List Name16) (word : List ℕ) (tokens : X → List Token) (o : Option X)
    → plain_words [] connectors (option_tokens word tokens o) ≡ told_words word
    (λ x. plain_words [] connectors (tokens x)) o
words_option connectors word tokens None = refl
words_option connectors word tokens (Some x) = refl

-- the words of parts that are joined
abbrev pub joined_words : List Name16 → List (List Token) → List (List ℕ)
joined_words connectors [] = []
joined_words connectors (part ∷ parts) = plain_words [] connectors part ++ joined_words connectors parts

pub words_joined : (connectors : List Name16) (parts : List (List Token))
    → plain_words [] connectors (all_tokens parts) ≡ joined_words connectors parts
words_joined connectors [] = refl
words_joined connectors (part ∷ parts) = grind (arith, map-append, words_joined connectors parts)
