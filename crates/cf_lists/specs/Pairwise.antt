-- A relation between each element of a list and each later one.
use Rattle.std.specs.Prelude.{Bool, true, ◌&&◌, List, [], ◌∷◌}
use Rattle.std.specs.List.{list_all}

abbrev pub pairwise : {X : Type 0} → (X → X → Bool) → List X → Bool
pairwise relation [] = true
pairwise relation (x ∷ xs) = list_all (relation x) xs && pairwise relation xs
