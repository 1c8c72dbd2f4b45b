-- The last of two things.
use Rattle.bench_parts.proofs.Imports.{◌≡◌, ◌+◌, ◌<◌, List, arith, [], ◌∷◌, ◌++◌, length, get_or, map, refl, sym, ap, subst, ◌∙◌, suc, Option, Some, None, IfSome, option_to_list, range_with_len, length-append, PassSeen, WordTable, new_pass}

-- the last of two
last-of_two : {X : Type 0} (a b : X) (front : List X) (x : X) → a ∷ b ∷ [] ≡ front ++ x ∷ [] → b ≡ x
last-of_two {X} a b [] x is =
    let e : 2 ≡ 1 = ap (λ (xs : List X). length xs) is in absurd (omega (arith, e))
last-of_two {X} a b (y ∷ []) x is = ap (λ (xs : List X). get_or xs 1 x) is
last-of_two {X} a b (y ∷ z ∷ front) x is =
    let e : 2 ≡ suc (suc (length (front ++ x ∷ []))) = ap (λ (xs : List X). length xs) is in
    let more = length-append front (x ∷ []) in
    absurd (omega (arith, e, more))

-- what holds of the second of two holds of the one behind all others
pub last-some : {X : Type 0} (P : X → Type 0) (a b : X) (front : List X) (found : Option X)
    → a ∷ b ∷ [] ≡ front ++ option_to_list found → P b → IfSome found P
last-some P a b front None is p = tt
last-some P a b front (Some x) is p = subst P (last-of_two a b front x is) p

-- what is left before the last of two is the first
pub front-of_two : {X : Type 0} (a b : X) (front : List X) (x : X) → a ∷ b ∷ [] ≡ front ++ x ∷ [] → front ≡ a ∷ []
front-of_two {X} a b [] x is =
    let e : 2 ≡ 1 = ap (λ (xs : List X). length xs) is in absurd (omega (arith, e))
front-of_two {X} a b (y ∷ []) x is = ap (λ (xs : List X). get_or xs 0 x ∷ []) (sym is)
front-of_two {X} a b (y ∷ z ∷ front) x is =
    let e : 2 ≡ suc (suc (length (front ++ x ∷ []))) = ap (λ (xs : List X). length xs) is in
    let more = length-append front (x ∷ []) in
    absurd (omega (arith, e, more))

-- the last of one thing
pub last-of_one : {X : Type 0} (a : X) (front : List X) (x : X) → a ∷ [] ≡ front ++ x ∷ [] → a ≡ x
last-of_one {X} a [] x is = ap (λ (xs : List X). get_or xs 0 x) is
last-of_one {X} a (y ∷ front) x is =
    let e : 1 ≡ suc (length (front ++ x ∷ [])) = ap (λ (xs : List X). length xs) is in
    let more = length-append front (x ∷ []) in
    absurd (omega (arith, e, more))

-- the last pass of a new table with one connector is the connector's
pub last-passes : {D : Type 0} (table : WordTable) (passes front : List (PassSeen D)) (found : Option (PassSeen D))
    → passes ≡ map (new_pass table) (range_with_len 0 (1 + 1)) → passes ≡ front ++ option_to_list found
    → IfSome found (λ pass. (pass.table ≡ table) × (0 < pass.owner))
last-passes table passes front found are ends = last-some (λ pass. (pass.table ≡ table) × (0 < pass.owner))
    (new_pass table 0) (new_pass table 1) front found (sym are ∙ ends) (refl, omega arith)
