-- What is spelled so by a stricter measure is spelled so by a laxer one.
use Rattle.plex_spell.proofs.Imports.{arith, ℕ, List, Rigour, AtLimits, AtNames, [], ◌∷◌, inl, inr, Form, Limits, Names, Declared, Token, IsWord, Spells, IsData, IsRecord, Number, Term, Short, Data, OnResource, Record, OfFacility, OfConnector, OfStructure, NewName}
use Rattle.plex_spell.proofs.PlaceLaws.{Words}

module _ (strict lax : Rigour) (declared : Declared) (limits : (Q : Type 0) → AtLimits strict (Unit {0}) Q
    → AtLimits lax (Unit {0}) Q) (names : (K : Type 0) → AtNames strict (Unit {0}) K → AtNames lax (Unit {0}) K) where
  record-laxer : (id : ℕ) (w : List ℕ) → IsRecord strict id w → IsRecord lax id w
  record-laxer id [] h = absurd h
  record-laxer id (b ∷ w) h = (h.0, (h.1.0, limits _ h.1.1))

  data-laxer : (text w : List ℕ) → IsData strict text w → IsData lax text w
  data-laxer text w (inl h) = inl (h.0, limits _ h.1)
  data-laxer text w (inr h) = grind (arith, limits)

  word-laxer : (t : Token) (w : List ℕ) → IsWord strict declared t w → IsWord lax declared t w
  word-laxer (Number low high n) w h = (h.0, limits _ h.1)
  word-laxer (Term bytes) w h = (h.0, limits _ h.1)
  word-laxer (Short text) w h = (h.0, limits _ h.1)
  word-laxer (Data text) w h = data-laxer text w h
  word-laxer (OnResource r) w h = grind (arith, limits)
  word-laxer (Record id) w h = record-laxer id.0 w h
  word-laxer (OfFacility cf) w h = (h.0, names _ h.1)
  word-laxer (OfConnector conn) w h = ((h.0.0, limits _ h.0.1), names _ h.1)
  word-laxer (OfStructure on) w h = ((h.0.0, limits _ h.0.1), names _ h.1)
  word-laxer (NewName name) w h = ((h.0.0, limits _ h.0.1), limits _ h.1)
  word-laxer t w h = h

  Spells-laxer : (ts : List Token) (ws rest : Words) → Spells strict declared ts ws rest
      → Spells lax declared ts ws rest
  Spells-laxer [] ws rest h = h
  Spells-laxer (t ∷ ts) [] rest h = absurd h
  Spells-laxer (t ∷ ts) (w ∷ ws) rest h = (word-laxer t w h.0, Spells-laxer ts ws rest h.1)

pub Spells-limits : (declared : Declared) (ts : List Token) (ws rest : Words) → Spells Names declared ts ws rest
    → Spells Limits declared ts ws rest
Spells-limits declared = Spells-laxer Names Limits declared (λ Q h. h) (λ K h. tt)

pub Spells-form : (declared : Declared) (ts : List Token) (ws rest : Words) → Spells Limits declared ts ws rest
    → Spells Form declared ts ws rest
Spells-form declared = Spells-laxer Limits Form declared (λ Q h. tt) (λ K h. tt)
