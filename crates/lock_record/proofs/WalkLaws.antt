-- Entries one after another.
use Rattle.lock_record.proofs.Imports.{◌≡◌, ℕ, zero, suc, ◌+◌, ◌<◌, Bool, true, false, List, [], ◌∷◌, ◌++◌, option_map, slice_get, length, drop, map, filter, refl, sym, ap, ◌∙◌, arith, list_any, list_all, IsPermutation, and_parts, and_from, ConnId, Resource, resource_before, same_part, same_resource, insertion, pairwise, list_all-filter_same, list_all-insertion, list_any-insertion, arranged, in_turn, resource_order, insertion_agree, arranged-filter, sorted_is, Record, Key, recorded, records_in, is_of, is_part_by, part_of, part_before, resource_at, resource_of, resources_by}
use Rattle.lock_record.proofs.PartLaws.{part_order}

-- what some of them have
any_arranged : (p : Record → Bool) (xs : List Record) → list_any p (arranged part_of part_before xs) ≡ list_any p xs
unfolding arranged
any_arranged p [] = refl
any_arranged p (x ∷ xs) = grind (arith, list_any-insertion, any_arranged p xs)

pub any_in : (es : List (Key × List ℕ)) (p : Record → Bool)
    → list_any p (map recorded es) ≡ list_any p (records_in es)
any_in es p = sym (any_arranged p (map recorded es))

-- one of them is a connector's
pub there_at : (conn : ConnId) (xs : List Record) (k : ℕ)
    → is_part_by conn (option_map part_of (slice_get xs k)) ≡ true → list_any (is_of conn) xs ≡ true
there_at conn [] k h = h
there_at conn (x ∷ xs) zero h = rw h refl
there_at conn (x ∷ xs) (suc k) h = grind (arith, there_at conn xs k h)

-- one that isn't is passed by
pub skipped : (conn : ConnId) (xs : List Record) (k : ℕ) → k < length xs → is_part_by conn (option_map
    part_of (slice_get xs k)) ≡ false → list_any (is_of conn) (drop (k + 1) xs) ≡ list_any (is_of conn) (drop k xs)
skipped conn [] k less h = absurd (omega (arith, less))
skipped conn (x ∷ xs) zero less h = rw h refl
skipped conn (x ∷ xs) (suc k) less h = grind (arith, skipped conn xs k (omega (arith, less)) h)

-- ---- a connector's resources, one after another

pub listed_next : (conn : ConnId) (xs : List Record) (k : ℕ) → k < length xs → resources_by
    conn (drop k xs) ≡ resource_at conn (option_map part_of (slice_get xs k)) ++ resources_by conn (drop (k + 1) xs)
listed_next conn [] k less = absurd (omega (arith, less))
listed_next conn (x ∷ xs) zero less = grind arith
listed_next conn (x ∷ xs) (suc k) less = grind (arith, listed_next conn xs k (omega (arith, less)))

all_arranged : (p : Record → Bool) (xs : List Record) → list_all p xs ≡ true
    → list_all p (arranged part_of part_before xs) ≡ true
unfolding arranged
all_arranged p [] h = refl
all_arranged p (x ∷ xs) h =
    let parts = and_parts (p x) (list_all p xs) h in
    list_all-insertion p (λ y. part_before (part_of y) (part_of x)) x (arranged part_of part_before xs)
    ∙ and_from (p x) (list_all p (arranged part_of part_before xs)) parts.0 (all_arranged p xs parts.1)

same_arranged : (conn : ConnId) (xs : List Record) → list_all (is_of conn) xs ≡ true
    → arranged part_of part_before xs ≡ arranged resource_of resource_before xs
unfolding arranged
same_arranged conn [] h = refl
same_arranged conn (x ∷ xs) h =
    let parts = and_parts (is_of conn x) (list_all (is_of conn) xs) h in
    insertion_agree (is_of conn) (λ y. part_before (part_of y) (part_of x)) (λ y. resource_before y.r x.r)
    x (arranged part_of part_before xs) (all_arranged (is_of conn) xs parts.1) (λ y e. grind arith)
    ∙ ap (λ (l : List Record). insertion (λ y. resource_before y.r x.r) x l) (same_arranged conn xs parts.1)

-- a connector's resources, once they are sorted, are those of its record data in order
pub sorted_resources : (conn : ConnId) (entries : List Record) (ks : List Resource)
    → IsPermutation (resources_by conn entries) ks → pairwise (in_turn (λ k. k) resource_before) ks ≡ true
    → ks ≡ resources_by conn (arranged part_of part_before entries)
sorted_resources conn entries ks perm turn = sorted_is same_resource
    resource_before resource_order resource_of (filter (is_of conn) entries) ks perm turn ∙ ap (map resource_of)
    (sym (same_arranged conn (filter (is_of conn) entries) (list_all-filter_same (is_of conn) entries))
    ∙ arranged-filter part_of same_part part_before part_order (is_of conn) entries)
