-- What stands before the next of a list, and what the last row leaves when it goes.
use Rattle.cache_core.proofs.Imports.{arith, ◌≡◌, ◌++◌, ◌∷◌, [], ◌&&◌, ◌-◌, Bool, true, List, Option, None, Some, fold, length, map, option_map, take, slice_get, ℕ, refl, sym, ◌∙◌, list_all, and_parts, and_from, list_all-append, slice_get-map, Name16, pairwise, CacheItem, Content, no_content, content_with, regs_without_row, content_without_last}

pub before_next : {X : Type 0} (relation : X → X → Bool) (xs : List X) (y : X) (ys : List X)
    → pairwise relation (xs ++ y ∷ ys) ≡ true → list_all (λ x. relation x y) xs ≡ true
before_next relation [] y ys h = refl
before_next relation (x ∷ xs) y ys h =
    let parts = and_parts (list_all (relation x) (xs ++ y ∷ ys)) (pairwise relation (xs ++ y ∷ ys)) h in
    let each = sym (list_all-append (relation x) xs (y ∷ ys)) ∙ parts.0 in
    let later = (and_parts (list_all (relation x) xs) (relation x y && list_all (relation x) ys) each).1 in
    and_from (relation x y) (list_all (λ z. relation z y) xs)
    (and_parts (relation x y) (list_all (relation x) ys) later).0 (before_next relation xs y ys parts.1)

-- rows that are placed bring no registrations
placed-regs : (items : List CacheItem) (start : Content) → (fold content_with start items).regs ≡ start.regs
placed-regs [] start = refl
placed-regs (item ∷ items) start = placed-regs items (content_with start item)

without-none : (row : Option CacheItem) → regs_without_row row [] ≡ []
without-none None = refl
without-none (Some row) = refl

-- the last row of a content that has just its rows
pub unplaced : (content : Content) (rows : List CacheItem) → fold content_with no_content content.rows ≡ content
    → rows ≡ take (length content.rows - 1) content.rows
    → record { rows = rows; regs = content.regs } ≡ content_without_last content
unplaced content rows alone front = grind (arith, placed-regs, without-none)

-- a name of all rows, at its place
pub named_at : (names : List Name16) (rows : List CacheItem) (k : ℕ) (name : Name16)
    → names ≡ map (λ (row : CacheItem). row.name) rows → slice_get names k ≡ Some name
    → Some name ≡ option_map (λ (row : CacheItem). row.name) (slice_get rows k)
named_at names rows k name e h = grind (arith, slice_get-map)
