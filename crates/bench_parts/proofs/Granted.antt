-- A lock that was just granted.
use Rattle.bench_parts.proofs.Imports.{◌≡◌, ◌≢◌, ℕ, true, List, [], ◌∷◌, None, Some, refl, sym, ap, ◌∙◌, eq-eqb, if◌then◌else◌, none-some, Hold, held_as, hold}

pub one-held : (word : ℕ) (held : List Hold) → held ≡ hold word true ∷ [] → held_as held word ≢ None
one-held word held is none = some_is (sym (ap (λ t. if t then Some true else None) (eq-eqb word word refl))
    ∙ (ap (λ l. held_as l word) (sym is) ∙ none))
  where
    some_is : Some true ≡ None → ⊥
    some_is e = none-some true (sym e)
