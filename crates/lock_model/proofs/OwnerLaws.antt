-- Any two owners of one resource are compatible.
use Rattle.lock_model.proofs.Imports.{arith, ◌≡◌, Bool, true, not, ◌&&◌, ◌||◌, List, [], ◌∷◌, Contains, refl, ◌∙◌, list_all, and_parts, and_from, or_right, eq-eqb, false≢true, All-contains, AllPass-from_list_all, Caps, pairwise, list_all_weaker, list_all_both, Interest, owners_agree, Content, IsContent, OwnersAreCompatible}
use Rattle.lock_model.proofs.InterestLaws.{agree_sym}

-- a relation with no direction, between each element and itself too
each_with_each : {X : Type 0} (relation : X → X → Bool) → ((x y : X) → relation x y ≡ true → relation y x ≡ true)
    → ((x : X) → relation x x ≡ true) → (xs : List X) → pairwise relation xs ≡ true
    → list_all (λ x. list_all (relation x) xs) xs ≡ true
each_with_each relation turn own [] h = refl
each_with_each relation turn own (x ∷ xs) h =
    let parts = and_parts (list_all (relation x) xs) (pairwise relation xs) h in
    and_from (relation x x && list_all (relation x) xs) (list_all (λ y. relation y x && list_all (relation y) xs) xs)
    (grind (arith, and_from)) (list_all_both (λ y. relation y x) (λ y. list_all (relation y) xs) xs (list_all_weaker
    (relation x) (λ y. relation y x) (turn x) xs parts.0) (each_with_each relation turn own xs parts.1))

agrees_itself : (x : Interest) → owners_agree x x ≡ true
agrees_itself x = grind (arith, or_right, eq-eqb)

all_contained : {X : Type 0} (p : X → Bool) (xs : List X) (x : X) → list_all p xs ≡ true → Contains xs x → p x ≡ true
all_contained p xs x h there = All-contains (λ y. p y ≡ true) xs x (AllPass-from_list_all p xs h) there

same_then : (a b : Bool) → not a || b ≡ true → a ≡ true → b ≡ true
same_then a b h e = grind (arith, false≢true)

pub compatible-interests : (caps : Caps) (content : Content) → IsContent caps content → OwnersAreCompatible content
compatible-interests caps content is x y left right same =
    let each = each_with_each owners_agree (λ a b h. agree_sym b.held a.held ∙ h) agrees_itself content.interests
    is.owners.compatible in
    let all = all_contained (λ a. list_all (owners_agree a) content.interests) content.interests x each left in
    same_then _ _ (all_contained (owners_agree x) content.interests y all right) same
