-- A directory stays one when a row takes the place of the row of its name.
use Rattle.cache_model.proofs.Imports.{◌≡◌, ℕ, ◌+◌, ◌≤◌, Bool, true, false, not, ◌&&◌, ◌||◌, cond, List, [], ◌∷◌, ◌++◌, Option, Some, None, unwrap_or, length, length-append, filter, map, refl, sym, ap, ◌∙◌, subst, arith, list_all, and_parts, and_from, or_left, not-true, false≢true, list_all-append, list_any-append, list_all-map, fold-map, sum_by_push, any-filter_same, Name16, ConnId, same_name, pairwise, insertion, list_all-filter, list_all_weaker, list_all_always, list_all-filter_same, none_filtered, all_from_none, filter_all, all_found, found_passes, list_all-insertion, list_any-insertion, length-insertion, sum_by-insertion, FindsPlace, pairwise-filter, pairwise_push, pairwise-insertion, pairwise-insertion_any, pairwise-map, sum_by_without, length_without, same_name-eq, same_name-refl, same_name-sym, name_before-trans, name_before-else, CacheItem, is_row_of, is_changed, elements_of, elements_in, row_of, has_row, rows_without, rows_with, rows_replaced, new_row, row_or_new, may_precede, names_apart, is_sound, IsDirectory, without_hold}
use Rattle.cache_model.specs.Rows.{stands_before}

abbrev pub name_of : CacheItem → Name16
name_of row = row.name

abbrev pub size : CacheItem → ℕ
size row = elements_of row.body

-- ---- the order

last_test : (a b n : Bool) → a ≡ false → cond b (cond a n true) (not a) ≡ true
last_test true b n e = absurd (false≢true (sym e))
last_test false true n e = refl
last_test false false n e = refl

finds_place : (row : CacheItem) → is_changed row ≡ true
    → FindsPlace may_precede (stands_before row) (λ other. not (same_name other.name row.name)) row
finds_place row c = grind (arith, false≢true, name_before-else, not-true, name_before-trans)

-- no row of the name is among the others
others_apart : (name : Name16) (rows : List CacheItem) → list_all (λ other. not (same_name other.name name))
    (rows_without name rows) ≡ true
others_apart name rows = list_all-filter_same (λ row. not (is_row_of name row)) rows

both_ways : (row other : CacheItem) → not (same_name other.name row.name) ≡ true → names_apart row other
    && names_apart other row ≡ true
both_ways row other h = grind (arith, and_from, same_name-sym)

ordered_with : (b : Bool) (row : CacheItem) (rest : List CacheItem) → is_changed row ≡ b
    → list_all (λ other. not (same_name other.name row.name)) rest ≡ true → pairwise may_precede rest ≡ true
    → pairwise may_precede (cond b (insertion (stands_before row) row rest) (rest ++ row ∷ [])) ≡ true
ordered_with true row rest e h o = pairwise-insertion may_precede
    (stands_before row) (λ other. not (same_name other.name row.name)) row rest (finds_place row e) h o
ordered_with false row rest e h o = grind (arith, pairwise_push, list_all_always, last_test)

apart_with : (b : Bool) (row : CacheItem) (rest : List CacheItem)
    → list_all (λ other. names_apart row other && names_apart other row) rest ≡ true → pairwise names_apart
    rest ≡ true → pairwise names_apart (cond b (insertion (stands_before row) row rest) (rest ++ row ∷ [])) ≡ true
apart_with true row rest h o = pairwise-insertion_any names_apart (stands_before row) row rest o h
apart_with false row rest h o = grind (arith, pairwise_push, list_all_weaker, and_parts)

all_with : (p : CacheItem → Bool) (b : Bool) (row : CacheItem) (rest : List CacheItem) → p row ≡ true
    → list_all p rest ≡ true → list_all p (cond b (insertion (stands_before row) row rest) (rest ++ row ∷ [])) ≡ true
all_with p true row rest e h = grind (arith, list_all-insertion, and_from)
all_with p false row rest e h = grind (arith, list_all-append, and_from)

pub directory-filter : (q : CacheItem → Bool) (rows : List CacheItem) → IsDirectory rows → IsDirectory (filter q rows)
directory-filter q rows is = grind (arith, pairwise-filter, list_all-filter)

pub directory-replaced : (row : CacheItem) (rows : List CacheItem) → IsDirectory rows → is_sound row ≡ true
    → IsDirectory (rows_replaced row rows)
directory-replaced row rows is sound =
    let rest = rows_without row.name rows in
    let others = directory-filter (λ other. not (is_row_of row.name other)) rows is in
    let apart = others_apart row.name rows in
    record {
      ordered = ordered_with (is_changed row) row rest refl apart others.ordered;
      one_for_name = grind (arith, apart_with, list_all_weaker, both_ways);
      sound = all_with is_sound (is_changed row) row rest sound others.sound;
    }

-- ---- how many rows and elements

length_with : (b : Bool) (row : CacheItem) (rest : List CacheItem)
    → length (cond b (insertion (stands_before row) row rest) (rest ++ row ∷ [])) ≡ length rest + 1
length_with true row rest = length-insertion (stands_before row) row rest
length_with false row rest = length-append rest (row ∷ [])

pub length-replaced : (row : CacheItem) (rows : List CacheItem) → length (rows_replaced row rows) ≡ length
    (rows_without row.name rows) + 1
length-replaced row rows = length_with (is_changed row) row (rows_without row.name rows)

elements_with : (b : Bool) (row : CacheItem) (rest : List CacheItem) → elements_in
    (cond b (insertion (stands_before row) row rest) (rest ++ row ∷ [])) ≡ elements_of row.body + elements_in rest
elements_with true row rest = sum_by-insertion size (stands_before row) row rest
elements_with false row rest = omega (arith, sum_by_push size rest row)

pub elements-replaced : (row : CacheItem) (rows : List CacheItem)
    → elements_in (rows_replaced row rows) ≡ elements_of row.body + elements_in (rows_without row.name rows)
elements-replaced row rows = elements_with (is_changed row) row (rows_without row.name rows)

pub elements-without : (name : Name16) (rows : List CacheItem) (row : CacheItem) → IsDirectory rows
    → row_of name rows ≡ Some row → elements_in (rows_without name rows) + elements_of row.body ≡ elements_in rows
elements-without name rows row is h = sum_by_without name_of same_name same_name-eq same_name-refl size name rows row
    is.one_for_name h

pub length-without : (name : Name16) (rows : List CacheItem) (row : CacheItem)
    → IsDirectory rows → row_of name rows ≡ Some row → length (rows_without name rows) + 1 ≡ length rows
length-without name rows row is h = length_without name_of same_name same_name-eq same_name-refl name rows row
    is.one_for_name h

pub without-absent : (name : Name16) (rows : List CacheItem) → has_row name rows ≡ false
    → rows_without name rows ≡ rows
without-absent name rows h = filter_all (λ row. not (is_row_of name row)) rows (all_from_none (is_row_of name) rows h)

-- ---- which names have a row

has_with : (b : Bool) (name : Name16) (row : CacheItem) (rest : List CacheItem)
    → has_row name (cond b (insertion (stands_before row) row rest) (rest ++ row ∷ [])) ≡ same_name row.name name
    || has_row name rest
has_with true name row rest = list_any-insertion (is_row_of name) (stands_before row) row rest
has_with false name row rest = grind (arith, list_any-append)

pub has_row-replaced : (name : Name16) (row : CacheItem) (rows : List CacheItem)
    → has_row name (rows_replaced row rows) ≡ same_name row.name name || has_row name (rows_without row.name rows)
has_row-replaced name row rows = has_with (is_changed row) name row (rows_without row.name rows)

-- a name that had a row has one
pub has_row_stays : (name : Name16) (row : CacheItem) (rows : List CacheItem) → has_row name rows ≡ true
    → has_row name (rows_replaced row rows) ≡ true
has_row_stays name row rows h = has_row-replaced name row rows ∙ go (same_name row.name name) refl
  where
    kept : same_name row.name name ≡ false → (other : CacheItem) → is_row_of name other ≡ true
        → not (is_row_of row.name other) ≡ true
    kept e other k = ap not (subst (λ (n : Name16). same_name n row.name ≡ false)
        (sym (same_name-eq other.name name k)) (same_name-sym name row.name ∙ e))

    go : (b : Bool) → same_name row.name name ≡ b → b || has_row name (rows_without row.name rows) ≡ true
    go true e = refl
    go false e = any-filter_same (is_row_of name) (λ other. not (is_row_of row.name other)) true (kept e) rows ∙ h

pub has_row_here : (row : CacheItem) (rows : List CacheItem) → has_row row.name (rows_replaced row rows) ≡ true
has_row_here row rows = grind (arith, has_row-replaced, or_left, same_name-refl)

-- ---- the row of a name, or a new one

or_new_name : (name : Name16) (stg : ℕ) (o : Option CacheItem) → ((row : CacheItem) → o ≡ Some row → row.name ≡ name)
    → (unwrap_or o (new_row name stg)).name ≡ name
or_new_name name stg None h = refl
or_new_name name stg (Some row) h = h row refl

pub name-row_or_new : (name : Name16) (stg : ℕ) (rows : List CacheItem) → (row_or_new name stg rows).name ≡ name
name-row_or_new name stg rows = grind (arith, or_new_name, same_name-eq, found_passes)

pub sound-row_or_new : (name : Name16) (stg : ℕ) (rows : List CacheItem) → IsDirectory rows
    → is_sound (row_or_new name stg rows) ≡ true
sound-row_or_new name stg rows is = grind (arith, all_found)

pub or_new_size : (name : Name16) (stg rest all : ℕ) (o : Option CacheItem) → rest ≤ all → ((row : CacheItem) →
    o ≡ Some row → rest + elements_of row.body ≡ all) → elements_of (unwrap_or o (new_row name stg)).body + rest ≤ all
or_new_size name stg rest all None le h = omega arith
or_new_size name stg rest all (Some row) le h = omega (arith, h row refl)

-- ---- a connector lets go

pub directory-without_hold : (conn : ConnId) (rows : List CacheItem) → IsDirectory rows
    → IsDirectory (map (without_hold conn) rows)
directory-without_hold conn rows is = grind (arith, pairwise-map, list_all-map, list_all_weaker, and_parts)

pub has_row-without_hold : (conn : ConnId) (name : Name16) (rows : List CacheItem)
    → has_row name (map (without_hold conn) rows) ≡ has_row name rows
has_row-without_hold conn name [] = refl
has_row-without_hold conn name (row ∷ rows) = grind (arith, has_row-without_hold conn name rows)

pub elements-without_hold : (conn : ConnId) (rows : List CacheItem) → elements_in (map (without_hold conn) rows) ≡
    elements_in rows
elements-without_hold conn rows = fold-map (λ n row. n + elements_of row.body) (without_hold conn) 0 rows

-- ---- one row more

alone_apart : (row : CacheItem) (rows : List CacheItem) → has_row row.name rows ≡ false
    → list_all (λ other. names_apart row other && names_apart other row) rows ≡ true
alone_apart row rows h = list_all_weaker (λ other. not (same_name other.name row.name)) (λ other. names_apart row
    other && names_apart other row) (both_ways row) rows (all_from_none (is_row_of row.name) rows h)

pub apart-with : (row : CacheItem) (rows : List CacheItem) → pairwise names_apart rows ≡ true
    → has_row row.name rows ≡ false → pairwise names_apart (rows_with row rows) ≡ true
apart-with row rows u h = apart_with (is_changed row) row rows (alone_apart row rows h) u

-- ---- the row of a name is taken out, changed and put back

pub found_named : (name : Name16) (rows : List CacheItem) (row : CacheItem) → row_of name rows ≡ Some row
    → row.name ≡ name
found_named name rows row h = same_name-eq row.name name (found_passes (is_row_of name) rows row h)

pub alone-without : (n name : Name16) (rows : List CacheItem) → n ≡ name → has_row n (rows_without name rows) ≡ false
alone-without n name rows e = subst (λ (m : Name16). has_row m (rows_without name rows) ≡ false) (sym e)
    (none_filtered (is_row_of name) rows)
