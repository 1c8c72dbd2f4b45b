-- Maps of lists that are filtered, or have one more element in its place.
use Rattle.cf_lists.proofs.Imports.{arith, ◌≡◌, Bool, true, List, [], ◌∷◌, filter, map, refl, insertion, map-id}

-- what a filter leaves, where the two maps agree on it
pub map-filtered : {X Y : Type 0} (f g : X → Y) (q : X → Bool) (s : Y → Bool) → ((x : X) → q x ≡ true → f x ≡ g x)
    → ((x : X) → s (g x) ≡ q x) → (xs : List X) → map f (filter q xs) ≡ filter s (map g xs)
map-filtered f g q s h e [] = refl
map-filtered f g q s h e (x ∷ xs) = grind (arith, map-filtered f g q s h e xs)

-- one element more
pub map-insertion : {X Y : Type 0} (f : X → Y) (before : X → Bool) (ahead : Y → Bool) (x : X) → ((y : X)
    → ahead (f y) ≡ before y) → (xs : List X) → map f (insertion before x xs) ≡ insertion ahead (f x) (map f xs)
map-insertion f before ahead x e [] = refl
map-insertion f before ahead x e (y ∷ ys) = grind (arith, map-insertion f before ahead x e ys)

-- a map in two ways
pub map-either : {X Y : Type 0} (f g : X → Y) (h : X → X) (k : Y → Y) → ((x : X) → f (h x) ≡ k (g x)) → (xs : List X)
    → map f (map h xs) ≡ map k (map g xs)
map-either f g h k e [] = refl
map-either f g h k e (x ∷ xs) = cc (e x, map-either f g h k e xs)

pub map-both : {X Y : Type 0} (f g : X → Y) (k : Y → Y) → ((x : X) → f x ≡ k (g x)) → (xs : List X)
    → map f xs ≡ map k (map g xs)
map-both f g k e xs = grind (arith, map-either f g (λ x. x) k e xs, map-id)
