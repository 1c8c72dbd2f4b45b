-- The shortest prefix of a list that is enough.
use Rattle.std.specs.Prelude.{Bool, if◌then◌else◌, List, [], ◌∷◌}

-- the shortest prefix that is enough, and the whole list where none is
abbrev pub shortest_prefix : {X : Type 0} → (List X → Bool) → List X → List X
shortest_prefix enough [] = []
shortest_prefix enough (x ∷ xs) =
    if enough [] then [] else x ∷ shortest_prefix (λ prefix. enough (x ∷ prefix)) xs
