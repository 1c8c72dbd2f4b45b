-- A list with one more element in its place.
use Rattle.std.specs.Prelude.{Bool, if◌then◌else◌, List, [], ◌∷◌}

-- the element stands behind the first ones that stand before it
abbrev pub insertion : {X : Type 0} → (X → Bool) → X → List X → List X
insertion before x [] = x ∷ []
insertion before x (y ∷ ys) = if before y then y ∷ insertion before x ys else x ∷ y ∷ ys
