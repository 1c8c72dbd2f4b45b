-- What is counted of rows, as rows come and go.
use Rattle.std.proofs.lemmas.List.Sums.{length-filter, count_by-le-length, sum_by-le-sum_by}
use Rattle.cf_lists.proofs.FilterLaws.{all_found}
use Rattle.cache_rows.proofs.Imports.{rows_replaced, ◌≡◌, ℕ, ◌+◌, ◌*◌, ◌≤◌, ◌<◌, Bool, true, false, cond, List, [], ◌∷◌, Option, Some, None, is_some, is_none, length, length-append, filter, map, sum_by, refl, sym, ap, ◌∙◌, subst, arith, list_all, and_parts, and_from, leb-true, length-map, list_all-append, list_all-map, fold-map, sum_by-cons, sum_by_push, Name16, ConnId, same_name, pairwise, any_is_found, list_all-filter, filter-filter, filter_swap, length-insertion, sum_by-insertion, list_all-insertion, sum_by_without, length_without, same_name-eq, same_name-refl, CacheItem, is_row_of, elements_of, elements_in, row_of, has_row, rows_without, rows_with, names_apart, is_reclaimable, without_hold, name_of, size, without-absent, Tally, is_unchanged, one_unchanged, elements_unchanged, is_small, tally_of, tally_with, IsTally, CanGrow, CanShrink}

-- ---- sums of a row more, and of a row less

module _ (name : Name16) (rows : List CacheItem) (row : CacheItem) (apart : pairwise names_apart rows ≡ true)
    (h : row_of name rows ≡ Some row) where
  pub sum_less : (f : CacheItem → ℕ) → sum_by f (rows_without name rows) + f row ≡ sum_by f rows
  sum_less f = sum_by_without name_of same_name same_name-eq same_name-refl f name rows row apart h

  long_less : length (rows_without name rows) + 1 ≡ length rows
  long_less = length_without name_of same_name same_name-eq same_name-refl name rows row apart h

pub absent : (name : Name16) (rows : List CacheItem) → row_of name rows ≡ None → has_row name rows ≡ false
absent name rows h = any_is_found (is_row_of name) rows ∙ ap is_some h

pub there : (name : Name16) (rows : List CacheItem) (row : CacheItem) → row_of name rows ≡ Some row
    → has_row name rows ≡ true
there name rows row h = any_is_found (is_row_of name) rows ∙ ap is_some h

pub none_less : (name : Name16) (rows : List CacheItem) → row_of name rows ≡ None → rows_without name rows ≡ rows
none_less name rows h = without-absent name rows (absent name rows h)

-- ---- the tally of what is left

pub tally_come : (tally after : Tally) (row : CacheItem) (rows left : List CacheItem) → IsTally tally rows
    → after ≡ tally_with row tally → is_small row ≡ true → left ≡ rows_with row rows → IsTally after left
tally_come tally after row rows left is e small f = grind (
  arith,
  length-insertion,
  length-append,
  sum_by-insertion,
  sum_by_push,
  size,
  list_all-insertion,
  and_from,
  list_all-append,
)

pub tally_released : (tally : Tally) (conn : ConnId) (rows : List CacheItem) → IsTally tally rows
    → IsTally tally (map (without_hold conn) rows)
tally_released tally conn rows is = grind (arith, length-map, fold-map, size, list_all-map)

-- ---- the tally of rows of which one takes its place anew

pub tally_retaken : (tally : Tally) (name : Name16) (rows : List CacheItem) (row : CacheItem)
    → pairwise names_apart rows ≡ true → row_of name rows ≡ Some row → row.name ≡ name → IsTally tally rows
    → IsTally tally (rows_replaced row rows)
tally_retaken tally name rows row apart h named is =
    let left = rows_without row.name rows in
    let own : row_of row.name rows ≡ Some row = ap (λ n. row_of n rows) named ∙ h in
    let small : is_small row ≡ true = all_found (is_row_of name) is_small rows row is.small h in
    let long = long_less row.name rows row apart own in
    let all = sum_less row.name rows row apart own in
    let rest : list_all is_small left ≡ true = list_all-filter is_small _ rows is.small in
    record {
      rows = is.rows ∙ grind (arith, length-insertion, length-append);
      elements = is.elements ∙ sym (all size) ∙ grind (arith, sum_by-insertion, sum_by_push);
      unchanged = is.unchanged ∙ sym (all one_unchanged) ∙ grind (arith, sum_by-insertion, sum_by_push);
      reclaimable = is.reclaimable ∙ sym (all elements_unchanged) ∙ grind (arith, sum_by-insertion, sum_by_push);
      small = grind (arith, list_all-insertion, list_all-append, and_from);
    }

-- ---- the numbers fit

small_sum : (rows : List CacheItem) → list_all is_small rows ≡ true → elements_in rows ≤ 16 * length rows
small_sum [] h = omega arith
small_sum (row ∷ rows) h =
    let parts = and_parts (is_small row) (list_all is_small rows) h in
    let one = leb-true (elements_of row.body) 16 parts.0 in
    omega (arith, one, small_sum rows parts.1, sum_by-cons size row rows)

ones_sum : (rows : List CacheItem) → sum_by one_unchanged rows ≤ length rows
ones_sum rows = count_by-le-length is_unchanged rows

part_sum : (rows : List CacheItem) → sum_by elements_unchanged rows ≤ elements_in rows
part_sum rows = grind (arith, sum_by-le-sum_by, size)

pub can_grow : (tally : Tally) (rows : List CacheItem) → IsTally tally rows → tally.rows < 4294967295 → CanGrow tally
can_grow tally rows is few = grind (arith, small_sum, ones_sum, part_sum)

-- ---- what may be reclaimed

reclaimable_rows : (name : Name16) (rows : List CacheItem)
    → filter (is_reclaimable name) rows ≡ filter is_unchanged (rows_without name rows)
reclaimable_rows name rows = grind (arith, filter-filter, filter_swap)

unchanged_count : (rows : List CacheItem) → sum_by one_unchanged rows ≡ length (filter is_unchanged rows)
unchanged_count rows = sym (length-filter is_unchanged rows)

sum_step : (b : Bool) (row : CacheItem) (n : ℕ) (ys : List CacheItem) → n ≡ elements_in ys
    → cond b (size row) 0 + n ≡ elements_in (cond b (row ∷ ys) ys)
sum_step true row n ys e = omega (arith, e, sum_by-cons size row ys)
sum_step false row n ys e = omega (arith, e)

unchanged_sum : (rows : List CacheItem) → sum_by elements_unchanged rows ≡ elements_in (filter is_unchanged rows)
unchanged_sum [] = refl
unchanged_sum (row ∷ rows) = sum_by-cons elements_unchanged row rows ∙ sum_step
    (is_none row.class) row (sum_by elements_unchanged rows) (filter is_unchanged rows) (unchanged_sum rows)

-- ---- as the code counts

module _ (tally : Tally) (name : Name16) (rows : List CacheItem) (is : IsTally tally rows) where
  pub counted_none : None ≡ row_of name rows → IsTally tally (rows_without name rows)
  counted_none h = subst (λ l. IsTally tally l) (sym (none_less name rows (sym h))) is

  pub count_same : row_of name rows ≡ None → tally.unchanged ≡ length (filter (is_reclaimable name) rows)
  count_same h = grind (arith, unchanged_count, none_less, reclaimable_rows)

  pub elements_same : row_of name rows ≡ None → tally.reclaimable ≡ elements_in (filter (is_reclaimable name) rows)
  elements_same h = grind (arith, unchanged_sum, none_less, reclaimable_rows)

  pub others_same : None ≡ row_of name rows → tally.elements ≡ elements_in (rows_without name rows)
  others_same h = grind (arith, none_less)

  -- a row that was looked at, with its class and its size
  module _ (row : CacheItem) (class : Option ℕ) (n : ℕ) (apart : pairwise names_apart rows ≡ true)
      (found : Some row ≡ row_of name rows) (classed : class ≡ row.class) (sized : n ≡ elements_of row.body) where
    less : (f : CacheItem → ℕ) → sum_by f (rows_without name rows) + f row ≡ sum_by f rows
    less f = sum_less name rows row apart (sym found) f

    pub shrinks : CanShrink class n tally
    shrinks = grind (arith, long_less, less size, less one_unchanged, less elements_unchanged)

    pub counted_out : (after : Tally) → tally_of class n after ≡ tally → IsTally after (rows_without name rows)
    counted_out after e = grind (arith, long_less, sum_less, size, list_all-filter)

    pub others_taken : elements_in (rows_without name rows) + n ≡ tally.elements
    others_taken = omega (arith, sized, is.elements, less size)

    pub count_taken : (k : ℕ) → k ≡ cond (is_none class) 1 0
        → length (filter (is_reclaimable name) rows) + k ≡ tally.unchanged
    count_taken k e = grind (arith, reclaimable_rows, unchanged_count, less one_unchanged)

    pub elements_taken : (k : ℕ) → k ≡ cond (is_none class) n 0
        → elements_in (filter (is_reclaimable name) rows) + k ≡ tally.reclaimable
    elements_taken k e = grind (arith, reclaimable_rows, unchanged_sum, less elements_unchanged)

pub reclaimable_fits : (tally : Tally) (rows : List CacheItem) → IsTally tally rows
    → tally.reclaimable ≤ elements_in rows
reclaimable_fits tally rows is = omega (arith, is.reclaimable, part_sum rows)
