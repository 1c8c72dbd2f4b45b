-- What the indexes tell of the rows.
use Rattle.cache_rows.proofs.Imports.{IfOk-weaker, ◌≡◌, ℕ, Bool, true, not, List, [], ◌∷◌, ◌++◌, Option, Some, None, option_map, slice_get, length, filter, map, suc, zero, ◌-◌, ◌+◌, ◌<◌, take, refl, sym, ap, ◌∙◌, subst, arith, map-append, length-map, drop_all, filter_agree, slice_get-map, Name16, same_name, pairwise, filter-filter, filter_all, list_all_always, any_is_found, split_next, AllFound, found_filter, found_append, Used, same_name-eq, same_name-refl, CacheItem, is_changed, row_of, has_row, rows_without, has_class, has_storage, names_apart, rows_of_class, name_of, is_unchanged, changed_of, classes_of, used_of, order_of, reclaimed_for}
use Rattle.cache_classes.specs.Castout as castout
use Rattle.cache_reclaim.specs.LastUse as last_use
use Rattle.cache_rows.proofs.IndexLaws.{filter-map, map_same, without-last}

-- ---- the names of a castout class

classed : (class : ℕ) (rows : List CacheItem) → filter (λ row. castout.is_of_class class (changed_of row))
    (filter is_changed rows) ≡ filter (has_class class) rows
classed class rows = grind (arith, filter-filter, filter_agree)

pub names-classes_of : (class : ℕ) (rows : List CacheItem)
    → castout.names_of class (classes_of rows) ≡ map (λ (row : CacheItem). row.name) (filter (has_class class) rows)
names-classes_of class rows = grind (arith, filter-map, map_same, classed)

pub count-classes_of : (class : ℕ) (rows : List CacheItem)
    → castout.count_of class (classes_of rows) ≡ rows_of_class rows class
count-classes_of class rows = grind (arith, filter-map, length-map, classed)

-- ---- the rows in the order of reclaiming

victim-row : (stg k : ℕ) (rows : List CacheItem) → last_use.victim
    stg k (order_of rows) ≡ option_map (λ (row : CacheItem). row.name) (slice_get (reclaimed_for stg rows) k)
victim-row stg k rows = ap (λ (l : List Used). option_map (λ (used : Used). used.name) (slice_get l k))
    (grind (arith, filter-map, map-append)) ∙ ap (λ (o : Option Used). option_map (λ (used : Used). used.name) o)
    (slice_get-map used_of (reclaimed_for stg rows) k) ∙ twice (slice_get (reclaimed_for stg rows) k)
  where
    twice : (o : Option CacheItem) → option_map (λ (used : Used). used.name) (option_map used_of o)
        ≡ option_map (λ (row : CacheItem). row.name) o
    twice None = refl
    twice (Some row) = refl

abbrev pub AreFound : List CacheItem → List CacheItem → Type 0
AreFound some rows = AllFound name_of same_name same_name-eq same_name-refl some rows

found_part : (p : CacheItem → Bool) (rows : List CacheItem) → pairwise names_apart rows ≡ true
    → AreFound (filter p (filter is_unchanged rows)) rows
found_part p rows h = subst (λ (l : List CacheItem). AreFound l rows)
    (sym (filter-filter p is_unchanged rows)) (found_filter name_of same_name same_name-eq same_name-refl _ rows h)

found_reclaimed : (stg : ℕ) (rows : List CacheItem) → pairwise names_apart rows ≡ true
    → AreFound (reclaimed_for stg rows) rows
found_reclaimed stg rows h =
    let unchanged = filter is_unchanged rows in
    found_append name_of same_name same_name-eq same_name-refl _ (filter (λ row. not (has_storage stg row)) unchanged)
    rows (found_part (has_storage stg) rows h) (found_part (λ row. not (has_storage stg row)) rows h)

found_at : (some rows : List CacheItem) (k : ℕ) (row : CacheItem) → AreFound some rows → slice_get some k ≡ Some row
    → row_of row.name rows ≡ Some row
found_at [] rows k row h e = absurd (cc)
found_at (x ∷ some) rows zero row h e =
    let same : x ≡ row = cc in subst (λ (r : CacheItem). row_of r.name rows ≡ Some r) same h.0
found_at (x ∷ some) rows (suc k) row h e = found_at some rows k row h.1 e

-- the row of the victim's name is the one that is reclaimed
pub reclaimed-row : (stg k : ℕ) (rows : List CacheItem) (name : Name16) → pairwise names_apart rows ≡ true
    → Some name ≡ last_use.victim stg k (order_of rows) → row_of name rows ≡ slice_get (reclaimed_for stg rows) k
reclaimed-row stg k rows name h e = go (slice_get (reclaimed_for stg rows) k) refl (e ∙ victim-row stg k rows)
  where
    go : (o : Option CacheItem) → slice_get (reclaimed_for stg rows) k ≡ o
        → Some name ≡ option_map (λ (row : CacheItem). row.name) o → row_of name rows ≡ o
    go None is f = absurd (cc)
    go (Some row) is f =
        let same : name ≡ row.name = cc in
        subst (λ (n : Name16). row_of n rows ≡ Some row) (sym same) (found_at _ _ k _ (found_reclaimed stg rows h) is)

pub reclaimed-none : (stg k : ℕ) (rows : List CacheItem) → None ≡ last_use.victim stg k (order_of rows)
    → None ≡ slice_get (reclaimed_for stg rows) k
reclaimed-none stg k rows e = go (slice_get (reclaimed_for stg rows) k) (e ∙ victim-row stg k rows)
  where
    go : (o : Option CacheItem) → None ≡ option_map (λ (row : CacheItem). row.name) o → None ≡ o
    go None f = refl
    go (Some row) f = absurd (cc)

-- ---- the row at a place, by its name

all_there : (rows : List CacheItem) → pairwise names_apart rows ≡ true → AreFound rows rows
all_there rows h = subst (λ (l : List CacheItem). AreFound l rows) (grind (arith, filter_all, list_all_always))
    (found_filter name_of same_name same_name-eq same_name-refl (λ (row : CacheItem). true) rows h)

pub named-row : (rows : List CacheItem) (k : ℕ) (name : Name16) → pairwise names_apart rows ≡ true
    → Some name ≡ option_map name_of (slice_get rows k) → row_of name rows ≡ slice_get rows k
named-row rows k name h e = go (slice_get rows k) refl e
  where
    go : (o : Option CacheItem) → slice_get rows k ≡ o → Some name ≡ option_map name_of o → row_of name rows ≡ o
    go None is f = absurd (cc)
    go (Some row) is f =
        let same : name ≡ row.name = cc in
        subst (λ (n : Name16). row_of n rows ≡ Some row) (sym same) (found_at rows rows k row (all_there rows h) is)

pub named-has : (rows : List CacheItem) (k : ℕ) (name : Name16)
    → pairwise names_apart rows ≡ true → Some name ≡ option_map name_of (slice_get rows k) → has_row name rows ≡ true
named-has rows k name h e = grind (arith, any_is_found, named-row, name_of)

pub past-named : (rows : List CacheItem) (k : ℕ) → k < length rows → None ≡ option_map name_of (slice_get rows k) → ⊥
past-named [] k lt e = omega (arith, lt)
past-named (x ∷ xs) zero lt e = absurd (cc)
past-named (x ∷ xs) (suc k) lt e = past-named xs k (omega (arith, lt)) e

-- what stands at a place of their names
pub listed-name : (rows : List CacheItem) (names : List Name16) (k : ℕ) (name : Option Name16)
    → names ≡ map name_of rows → name ≡ slice_get names k → name ≡ option_map name_of (slice_get rows k)
listed-name rows names k name listed e = grind (arith, slice_get-map, name_of)

pub popped : (rows : List CacheItem) (name : Name16) → pairwise names_apart rows ≡ true → Some name ≡ option_map
    name_of (slice_get rows (length rows - 1)) → rows_without name rows ≡ take (length rows - 1) rows
popped rows name h e = go (slice_get rows (length rows - 1)) refl e
  where
    go : (o : Option CacheItem) → slice_get rows (length rows - 1) ≡ o → Some name ≡ option_map name_of o
        → rows_without name rows ≡ take (length rows - 1) rows
    go None is f = absurd (cc)
    go (Some row) is f =
        let same : name ≡ row.name = cc in
        let last = length rows - 1 in
        let front = take last rows in
        let whole : rows ≡ front ++ row ∷ [] = split_next rows last row is ∙ ap (λ (l : List CacheItem). front ++
        row ∷ l) (drop_all (last + 1) rows (omega arith)) in grind (arith, without-last)

-- ---- what functions are proved by

pub ruleset classes_told = (IfOk-weaker, names-classes_of, count-classes_of)

pub ruleset reclaimed_told = (reclaimed-none, reclaimed-row)

pub ruleset place_told = (IfOk-weaker, named-has, named-row, past-named, listed-name)
