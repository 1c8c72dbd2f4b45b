-- The records up to one of them, by header and place.
use Rattle.std.specs.Prelude.{ℕ, zero, suc, List, [], ◌∷◌, map, take}

module _ {X : Type 0} where
  -- as many headers, without records
  abbrev pub emptied : List (List X) → List (List X)
  emptied lists = map (λ _. []) lists

  -- the records of the headers before one and so many of its own; in the others none
  abbrev pub front : ℕ → ℕ → List (List X) → List (List X)
  front header n [] = []
  front zero n (records ∷ lists) = take n records ∷ emptied lists
  front (suc header) n (records ∷ lists) = records ∷ front header n lists
