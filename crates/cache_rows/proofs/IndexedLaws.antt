-- A map from names and two indexes hold one list of rows, as rows come and go.
use Rattle.std.proofs.lemmas.List.Filters.{length-filter_both}
use Rattle.cf_lists.proofs.KeyLaws.{none_later, later_apart}
use Rattle.cache_model.proofs.RowLaws.{found_named}
use Rattle.cache_model.proofs.CopyLaws.{other_found as found_without, row_of-replaced}
use Rattle.cache_rows.proofs.IndexLaws.{filter-map, map_same, unchanged_behind, classes-without, order-without, classes-put, order-put, front-put, classes-released, order-released}
use Rattle.cache_rows.proofs.Imports.{without-absent, ◌≡◌, ℕ, zero, suc, ◌+◌, ◌-◌, ◌≤◌, ◌<◌, Bool, true, false, not, ◌&&◌, cond, List, [], ◌∷◌, ◌++◌, Option, Some, None, option_map, option_to_list, slice_get, is_some, unwrap_or, length, length-append, filter, map, drop, refl, sym, ap, ◌∙◌, subst, arith, list_all, and_parts, map-append, length-map, drop_all, filter-append, slice_get-map, Name16, ConnId, same_name, pairwise, names_apart, filter_agree, filter-filter, filter_swap, find_none, any_is_found, length-filter-le, found_filter, pairwise-filter, pairwise-map, Changed, names_without, names_set, Writes, Used, order_without, slice_get-front, slice_get-behind, same_name-eq, same_name-refl, CacheItem, is_row_of, is_changed, row_of, has_row, rows_without, rows_with, rows_replaced, new_row, has_storage, without_hold, name_of, apart-with, alone-without, is_unchanged, classes_of, order_of, names_retaken, order_retaken, names_reset, order_reset, order_with, changed_first, Label, item_with, body_of, row_or, changed_in, unchanged_in, rows_in, IsIndexed, counts_at, retaken, relabeled, row_of-released}
use Rattle.cache_classes.specs.Castout as castout
use Rattle.cache_reclaim.specs.LastUse as last_use
use Rattle.cache_rows.proofs.{LookupLaws.AreFound}

-- ---- the list is the changed rows, and then the others

parts_step : (b : Bool) (y : CacheItem) (ys : List CacheItem) → (b ≡ false → filter is_changed ys ≡ [])
    → ys ≡ filter is_changed ys ++ filter is_unchanged ys → y ∷ ys ≡ cond b (y ∷ filter is_changed ys)
    (filter is_changed ys) ++ cond (not b) (y ∷ filter is_unchanged ys) (filter is_unchanged ys)
parts_step true y ys none ih = ap (λ l. y ∷ l) ih
parts_step false y ys none ih = grind arith

pub parts_of : (rows : List CacheItem) → pairwise changed_first rows ≡ true
    → rows ≡ filter is_changed rows ++ filter is_unchanged rows
parts_of [] h = refl
parts_of (y ∷ ys) h =
    let parts = and_parts (list_all (changed_first y) ys) (pairwise changed_first ys) h in
    parts_step (is_changed y) y ys (λ e. unchanged_behind y ys e parts.0) (parts_of ys parts.1)

each_found : (at : Name16 → Option CacheItem) (rows vs : List CacheItem) → ((name : Name16)
    → at name ≡ row_of name rows) → AreFound vs rows → map (λ (row : CacheItem). row_or at row.name) vs ≡ vs
each_found at rows [] f h = refl
each_found at rows (v ∷ vs) f h =
    let one : row_or at v.name ≡ v = ap (λ o. unwrap_or o (new_row v.name 1)) (f v.name ∙ h.0) in
    let rest = each_found at rows vs f h.1 in λ j. one j ∷ rest j

-- ---- the changed rows and the others are all

both_parts : (rows : List CacheItem)
    → length (filter is_unchanged rows) + length (filter is_changed rows) ≡ length rows
both_parts rows = grind (arith, length-filter_both is_changed is_unchanged (λ row. refl) rows)

module _ (rows : List CacheItem) (at : Name16 → Option CacheItem) (names : List Changed) (used : List Used)
    (is : IsIndexed rows at names used) where
  pub listed_changed : changed_in at names ≡ filter is_changed rows
  listed_changed = ap (λ l. changed_in at l) is.classed
      ∙ map_same _ _ _ (λ row. refl) _ ∙ each_found at rows (filter is_changed rows) is.found
      (found_filter name_of same_name same_name-eq same_name-refl is_changed rows is.one_for_name)

  listed_unchanged : unchanged_in at used ≡ filter is_unchanged rows
  listed_unchanged = ap (λ l. unchanged_in at l) is.ordered
      ∙ map_same _ _ _ (λ row. refl) _ ∙ each_found at rows (filter is_unchanged rows) is.found
      (found_filter name_of same_name same_name-eq same_name-refl is_unchanged rows is.one_for_name)

  -- what the map and the indexes hold is the list
  pub listed_is : rows_in at names used ≡ rows
  listed_is = grind (arith, listed_changed, listed_unchanged, parts_of)

  pub listed : IsIndexed (rows_in at names used) at names used
  listed = subst (λ l. IsIndexed l at names used) (sym listed_is) is

  -- no row is found, and there is none
  pub missing : (name : Name16) → None ≡ at name → has_row name rows ≡ false
  missing name e = any_is_found (is_row_of name) rows ∙ ap is_some (sym (e ∙ is.found name))

  -- the names stand in the order of the rows
  names_listed : map name_of rows ≡ castout.names_in names ++ last_use.names_in used
  names_listed = ap (λ l. map name_of l) (parts_of _ is.changed_front) ∙ map-append name_of
      (filter is_changed rows) (filter is_unchanged rows) ∙ ap (λ l. l ++ map name_of (filter is_unchanged rows))
      (sym (ap castout.names_in is.classed ∙ map_same _ _ _ (λ row. refl) _))
      ∙ ap (λ l. castout.names_in names ++ l) (sym (ap last_use.names_in is.ordered ∙ map_same _ _ _ (λ row. refl) _))

  pub names_are : (all : List Name16) → all ≡ castout.names_in names ++ last_use.names_in used
      → all ≡ map name_of rows
  names_are all e = e ∙ sym names_listed

  row_at_place : (k : ℕ)
      → option_map name_of (slice_get rows k) ≡ slice_get (castout.names_in names ++ last_use.names_in used) k
  row_at_place k = sym (slice_get-map name_of rows k) ∙ ap (λ l. slice_get l k) names_listed

  pub name_behind : (k : ℕ) (name : Option Name16) → length names ≤ k → name ≡ option_map
      (λ (one : Used). one.name) (slice_get used (k - length names)) → name ≡ option_map name_of (slice_get rows k)
  name_behind k name le e =
      let long = length-map names (λ (changed : Changed). changed.name) in
      e ∙ sym (slice_get-map (λ (one : Used). one.name) used (k - length names)) ∙ ap (λ n. slice_get
      (last_use.names_in used) (k - n)) (sym long) ∙ sym (grind (arith, slice_get-behind)) ∙ sym (row_at_place k)

  pub fewer_unchanged : length used ≤ length rows
  fewer_unchanged = grind (arith, length-map, length-filter-le)

  -- the name of the last row, where none is unchanged
  pub last_in_front : (n : ℕ) (name : Option Name16) → n ≡ length rows → 0 < n → n ≤ length names
      → name ≡ option_map (λ (changed : Changed). changed.name) (slice_get names (length names - 1))
      → name ≡ option_map name_of (slice_get rows (n - 1))
  last_in_front n name all some le e =
      grind (arith, length-filter-le, length-map, slice_get-map, slice_get-front, row_at_place)

  -- ---- how many rows are of a storage class

  pub changed_storage : (stg : ℕ) → length (filter (λ (changed : Changed). has_storage stg (row_or at changed.name))
      names) ≡ length (filter (λ row. has_storage stg row && is_changed row) rows)
  changed_storage stg =
      let row = λ (changed : Changed). row_or at changed.name in
      sym (grind (arith, length-map)) ∙ ap (λ (l : List CacheItem). length l) (sym (filter-map
      (has_storage stg) row names) ∙ ap (λ (l : List CacheItem). filter (has_storage stg) l) listed_changed
      ∙ filter_swap (has_storage stg) is_changed rows ∙ filter-filter is_changed (has_storage stg) rows)

  pub unchanged_storage : (stg n : ℕ) → n ≡ length (filter (last_use.is_in_part stg true) used) → n
      + length (filter (λ row. has_storage stg row && is_changed row) rows) ≡ length (filter (has_storage stg) rows)
  unchanged_storage stg n e = grind (arith, filter-map, length-map, filter_swap, filter-filter, both_parts)

-- ---- one more of a list from a place on

pub drop_one : {X : Type 0} (xs : List X) (k : ℕ) → drop k xs ≡ option_to_list (slice_get xs k) ++ drop (k + 1) xs
drop_one {X} [] k =
    let none : List X = [] in drop_all k none (omega arith) ∙ sym (drop_all (k + 1) none (omega arith))
drop_one (x ∷ xs) zero = refl
drop_one (x ∷ xs) (suc k) = grind (arith, drop_one xs k)

pub counted_more : (stg : ℕ) (at : Name16 → Option CacheItem) (names : List Changed) (k now one all : ℕ)
    → one ≡ counts_at stg at names k
    → now + length (filter (λ changed. has_storage stg (row_or at changed.name)) (drop k names)) ≡ all
    → now + one + length (filter (λ changed. has_storage stg (row_or at changed.name)) (drop (k + 1) names)) ≡ all
counted_more stg at names k now one all is so_far = grind (arith, drop_one, filter-append, length-append)

pub count_fits : (stg : ℕ) (at : Name16 → Option CacheItem) (names : List Changed) (k now one : ℕ) → one ≡ counts_at
    stg at names k → now + length (filter (λ changed. has_storage stg (row_or at changed.name)) (drop k names))
    ≡ length (filter (λ changed. has_storage stg (row_or at changed.name)) names) → now + one ≤ length names
count_fits stg at names k now one is so_far =
    let p = λ (changed : Changed). has_storage stg (row_or at changed.name) in
    let more = counted_more stg at names k now one (length (filter p names)) is so_far in
    omega (arith, more, length-filter-le p names)

-- ---- no rows

pub nothing : (at : Name16 → Option CacheItem) (names : List Changed) (used : List Used)
    → ((name : Name16) → at name ≡ None) → names ≡ [] → used ≡ [] → IsIndexed [] at names used
nothing at names used h e f = grind arith

-- ---- a row is taken out

other_found : (q name : Name16) (rows : List CacheItem)
    → row_of q (rows_without name rows) ≡ cond (same_name name q) None (row_of q rows)
other_found q name rows = go (same_name name q) refl
  where
    go : (b : Bool) → same_name name q ≡ b → row_of q (rows_without name rows) ≡ cond b None (row_of q rows)
    go true e = find_none (is_row_of q) (rows_without name rows) (alone-without q _ _ (sym (same_name-eq name q e)))
    go false e = found_without q name rows e

pub taken : (rows : List CacheItem) (at next : Name16 → Option CacheItem) (names names' : List Changed)
    (used used' : List Used) (name : Name16) → IsIndexed rows at names used → Writes at name None next → names' ≡
    names_without name names → used' ≡ order_without name used → IsIndexed (rows_without name rows) next names' used'
taken rows at next names names' used used' name is writes e f =
    grind (arith, pairwise-filter, classes-without, order-without, other_found)

-- ---- a row is put in its place

pub come : (rows : List CacheItem) (at next : Name16 → Option CacheItem)
    (names names' : List Changed) (used used' : List Used) (row : CacheItem) → IsIndexed rows at names used
    → has_row row.name rows ≡ false → Writes at row.name (Some row) next → names' ≡ names_set row.name row.class names
    → used' ≡ order_with row used → IsIndexed (rows_with row rows) next names' used'
come rows at next names names' used used' row is alone writes e f =
    grind (arith, front-put, apart-with, classes-put, order-put, without-absent, row_of-replaced)

-- ---- a row is put in place of the one of its name

row_twice : (b : Bool) (row : CacheItem) (o : Option CacheItem)
    → cond b (Some row) o ≡ cond b (Some row) (cond b None o)
row_twice true row o = refl
row_twice false row o = refl

pub replaced : (rows : List CacheItem) (at next : Name16 → Option CacheItem) (names left names' : List Changed)
    (used rest used' : List Used) (row : CacheItem) → IsIndexed rows at names used → Writes at row.name
    (Some row) next → left ≡ names_without row.name names → rest ≡ order_without row.name used → names' ≡ names_set
    row.name row.class left → used' ≡ order_with row rest → IsIndexed (rows_replaced row rows) next names' used'
replaced rows at next names left names' used rest used' row is writes e f g h = come (rows_without row.name rows)
    middle next left names' rest used' row (taken rows at middle names left used rest row.name is (λ q. refl) e f)
    (alone-without row.name row.name rows refl) (λ q. writes q ∙ row_twice (same_name row.name q) row (at q)) g h
  where
    middle : Name16 → Option CacheItem
    middle q = cond (same_name row.name q) None (at q)

pub relabeled_in : (rows : List CacheItem) (at next : Name16 → Option CacheItem) (names left names' : List Changed)
    (used rest used' : List Used) (label : Label) → IsIndexed rows at names used → Writes
    at label.name (Some (item_with label (body_of (at label.name)))) next → left ≡ names_without label.name names
    → rest ≡ order_without label.name used → names' ≡ names_set label.name label.class left → used' ≡ order_with
    (item_with label None) rest → IsIndexed (rows_replaced (relabeled label rows) rows) next names' used'
relabeled_in rows at next names left names' used rest used' label is writes e f g h =
    replaced rows at next names left names' used rest used' (relabeled label rows) is (grind arith) e f g h

-- ---- a row takes its place anew

-- what is left out for a name's row alone
left_apart : (p : CacheItem → Bool) (name : Name16) (rows : List CacheItem) (row : CacheItem)
    → pairwise names_apart rows ≡ true → row_of name rows ≡ Some row → p row ≡ false
    → filter p (rows_without name rows) ≡ filter p rows
left_apart p name [] row u h e = absurd (cc)
left_apart p name (y ∷ ys) row u h e = go (is_row_of name y) refl
    (λ f. left_apart p name ys row (later_apart name_of same_name same_name-eq same_name-refl y ys u) f e)
  where
    go : (b : Bool) → is_row_of name y ≡ b
        → (row_of name ys ≡ Some row → filter p (rows_without name ys) ≡ filter p ys)
        → filter p (rows_without name (y ∷ ys)) ≡ filter p (y ∷ ys)
    go true t ih =
        let alone : has_row name ys ≡ false = subst (λ (n : Name16). has_row n ys ≡ false)
        (same_name-eq y.name name t) (none_later name_of same_name same_name-eq same_name-refl y ys u) in
        grind (arith, without-absent)
    go false t ih = grind arith

without_twice : (name : Name16) (names : List Changed)
    → names_without name (names_without name names) ≡ names_without name names
without_twice name names = grind (arith, filter-filter, filter_agree)

order_twice : (name : Name16) (order : List Used)
    → order_without name (order_without name order) ≡ order_without name order
order_twice name order = grind (arith, filter-filter, filter_agree)

set_retaken : (class : Option ℕ) (row : CacheItem) (rows : List CacheItem) (names : List Changed)
    → names ≡ classes_of rows → pairwise names_apart rows ≡ true → row_of row.name rows ≡ Some row
    → row.class ≡ class
    → names_retaken row.name class names ≡ names_set row.name class (names_without row.name names)
set_retaken None row rows names e u h f =
    let same = left_apart is_changed row.name rows row u h (ap is_some f) in
    grind (arith, without_twice, classes-without)
set_retaken (Some class) row rows names e u h f = grind (arith, without_twice)

order_kept : (class : Option ℕ) (row : CacheItem) (rows : List CacheItem) (used : List Used)
    → used ≡ order_of rows → pairwise names_apart rows ≡ true → row_of row.name rows ≡ Some row → row.class ≡ class
    → order_retaken row.name class row.stg used ≡ order_with row (order_without row.name used)
order_kept None row rows used e u h f = grind (arith, order_twice)
order_kept (Some class) row rows used e u h f =
    let same = left_apart is_unchanged row.name rows row u h (ap (λ o. not (is_some o)) f) in
    grind (arith, order-without)

pub retaken_in : (rows : List CacheItem) (at : Name16 → Option CacheItem) (names names' : List Changed)
    (used used' : List Used) (name : Name16) (row : CacheItem) → IsIndexed rows at names used
    → row_of name rows ≡ Some row → names' ≡ names_retaken name row.class names
    → used' ≡ order_retaken name row.class row.stg used → IsIndexed (rows_replaced row rows) at names' used'
retaken_in rows at names names' used used' name row is h e f =
    let named : row.name ≡ name = found_named name rows row h in
    let own : row_of row.name rows ≡ Some row = ap (λ n. row_of n rows) named ∙ h in
    replaced rows at at names (names_without row.name names) names' used (order_without row.name used) used' row is
    (λ q. here (same_name row.name q) q refl own) refl refl
    (e ∙ ap (λ n. names_retaken n row.class names) (sym named)
    ∙ set_retaken row.class row rows names is.classed is.one_for_name own refl)
    (f ∙ ap (λ n. order_retaken n row.class row.stg used) (sym named)
    ∙ order_kept row.class row rows used is.ordered is.one_for_name own refl)
  where
    here : (b : Bool) (q : Name16) → same_name row.name q ≡ b → row_of row.name rows ≡ Some row
        → at q ≡ cond b (Some row) (at q)
    here true q t own = is.found q ∙ ap (λ n. row_of n rows) (sym (same_name-eq row.name q t)) ∙ own
    here false q t own = refl

pub touched_in : (rows : List CacheItem) (at : Name16 → Option CacheItem) (names names' : List Changed)
    (used used' : List Used) (name : Name16) → IsIndexed rows at names used → names' ≡ names_reset name (at name) names
    → used' ≡ order_reset name (at name) used → IsIndexed (retaken (row_of name rows) rows) at names' used'
touched_in rows at names names' used used' name is e f = go (row_of name rows) refl
  where
    go : (o : Option CacheItem) → row_of name rows ≡ o → IsIndexed (retaken o rows) at names' used'
    go None h =
        let none : at name ≡ None = is.found name ∙ h in
        let same : names' ≡ names = e ∙ ap (λ o. names_reset name o names) none in
        let still : used' ≡ used = f ∙ ap (λ o. order_reset name o used) none in
        rw (same, still) is
    go (Some row) h =
        let own : at name ≡ Some row = is.found name ∙ h in
        retaken_in rows at names names' used used' name row is h (e ∙ ap (λ o. names_reset name o names) own)
        (f ∙ ap (λ o. order_reset name o used) own)

-- ---- castout locks are released

pub released : (rows : List CacheItem) (at next : Name16 → Option CacheItem) (names : List Changed) (used : List Used)
    (conn : ConnId) → IsIndexed rows at names used → ((q : Name16) → next q ≡ option_map (without_hold conn) (at q))
    → IsIndexed (map (without_hold conn) rows) next names used
released rows at next names used conn is moved =
    grind (arith, pairwise-map, classes-released, order-released, row_of-released)

-- ---- what functions are proved by

pub ruleset fewer = (length-filter-le, length-map)
