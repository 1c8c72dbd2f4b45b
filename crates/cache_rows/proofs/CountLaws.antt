-- How many rows have which number, as rows come and go.
use Rattle.std.proofs.lemmas.List.Sums.{length-filter, count_by-le-length}
use Rattle.cache_model.proofs.RowLaws.{found_named}
use Rattle.cache_rows.proofs.Imports.{◌≡◌, ℕ, ◌+◌, ◌≤◌, ◌<◌, ◌&&◌, Bool, true, List, [], Option, Some, None, is_some, length, filter, map, sum_by, slice_index_or, refl, sym, ap, ◌∙◌, subst, arith, fold-map, sum_by_push, filter_agree, Name16, ConnId, pairwise, sum_by-insertion, CacheItem, Totals, IsTotals, is_changed, row_of, rows_without, rows_with, rows_replaced, retaken, names_apart, has_class, has_storage, without_hold, rows_of_class, Counts, is_key, ones, storage_key, changed_key, IsCount, AreCounts, IsMore, IsMoreOf, AreBelow, AreAbove, CanAdd, CanLower, AreZero}
use Rattle.cache_rows.proofs.TallyLaws.{sum_less, none_less, tally_retaken}

-- ---- one number

sum_with : (f : CacheItem → ℕ) (row : CacheItem) (rows : List CacheItem)
    → sum_by f (rows_with row rows) ≡ sum_by f rows + f row
sum_with f row rows = grind (arith, sum_by-insertion, sum_by_push)

module _ (key : CacheItem → Option ℕ) (rows : List CacheItem) (row : CacheItem) (one : Option ℕ)
    (is_one : one ≡ key row) where
  come : (less more : List ℕ) → IsCount key less rows → IsMore one less more → IsCount key more (rows_with row rows)
  come less more is m k lt =
      let all = sum_with (λ r. ones k (key r)) row rows in
      m k lt ∙ (grind (arith, is k lt))

  module _ (name : Name16) (apart : pairwise names_apart rows ≡ true) (found : row_of name rows ≡ Some row) where
    gone : (less more : List ℕ) → IsCount key more rows → IsMore one less more
        → IsCount key less (rows_without name rows)
    gone less more is m k lt =
        let all = sum_less name rows row apart found (λ r. ones k (key r)) in
        let e : ones k one ≡ ones k (key row) = ap (ones k) is_one in
        omega (arith, is k lt, m k lt, all, e)

    above : (counts : List ℕ) → IsCount key counts rows → AreAbove one counts
    above counts is k lt =
        let all = sum_less name rows row apart found (λ r. ones k (key r)) in
        let e : ones k one ≡ ones k (key row) = ap (ones k) is_one in
        omega (arith, is k lt, all, e)

below : (key : CacheItem → Option ℕ) (counts : List ℕ) (rows : List CacheItem) → IsCount key counts rows
    → length rows < 4294967295 → AreBelow counts
below key counts rows is few k lt =
    let le : sum_by (λ row. ones k (key row)) rows ≤ length rows =
    count_by-le-length (λ row. is_key k (key row)) rows in
    omega (arith, is k lt, le, few)

same_released : (key : CacheItem → Option ℕ) (conn : ConnId) → ((row : CacheItem) → key (without_hold conn row)
    ≡ key row) → (counts : List ℕ) (rows : List CacheItem) → IsCount key counts rows
    → IsCount key counts (map (without_hold conn) rows)
same_released key conn same counts rows is k lt = is k lt ∙ grind (arith, fold-map)

-- ---- all of them

pub counts_zero : (counts : Counts) → AreZero counts → AreCounts counts []
counts_zero counts z = record {
  storage = λ k lt. z.storage k;
  changed = λ k lt. z.changed k;
  castout = λ k lt. z.castout k;
}

pub counts_grow : (counts : Counts) (rows : List CacheItem) → AreCounts counts rows → length rows < 4294967295
    → CanAdd counts
counts_grow counts rows is few = record {
  storage = below storage_key _ rows is.storage few;
  changed = below (λ r. changed_key r.class r.stg) _ rows is.changed few;
  castout = below (λ r. r.class) _ rows is.castout few;
}

pub counts_come : (less more : Counts) (class : Option ℕ) (stg : ℕ) (row : CacheItem) (rows left : List CacheItem)
    → AreCounts less rows → class ≡ row.class → stg ≡ row.stg → IsMoreOf class stg less more
    → left ≡ rows_with row rows → AreCounts more left
counts_come less more class stg row rows left is c s m e = subst (λ l. AreCounts more l) (sym e) (record {
  storage = come storage_key rows row (Some stg) (ap Some s) _ _ is.storage m.storage;
  changed = come (λ r. changed_key r.class r.stg) rows row (changed_key class stg)
      (grind arith) _ _ is.changed m.changed;
  castout = come (λ r. r.class) rows row class c _ _ is.castout m.castout;
})

module _ (counts : Counts) (class : Option ℕ) (stg : ℕ) (name : Name16) (rows : List CacheItem) (row : CacheItem)
    (apart : pairwise names_apart rows ≡ true) (found : Some row ≡ row_of name rows) (c : class ≡ row.class)
    (s : stg ≡ row.stg) (is : AreCounts counts rows) where
  pub counts_lower : CanLower class stg counts
  counts_lower = record {
    storage = above storage_key rows row (Some stg) (ap Some s) name apart (sym found) _ is.storage;
    changed = above (λ r. changed_key r.class r.stg) rows row (changed_key class stg) (grind arith)
        name apart (sym found) _ is.changed;
    castout = above (λ r. r.class) rows row class c name apart (sym found) _ is.castout;
  }

  pub counts_gone : (less : Counts) → IsMoreOf class stg less counts → AreCounts less (rows_without name rows)
  counts_gone less m = record {
    storage = gone storage_key rows row (Some stg) (ap Some s) name apart (sym found) _ _ is.storage m.storage;
    changed = gone (λ r. changed_key r.class r.stg) rows row (changed_key class stg) (grind arith)
        name apart (sym found) _ _ is.changed m.changed;
    castout = gone (λ r. r.class) rows row class c name apart (sym found) _ _ is.castout m.castout;
  }

pub none_gone : (counts : Counts) (name : Name16) (rows : List CacheItem) → None ≡ row_of name rows
    → AreCounts counts rows → AreCounts counts (rows_without name rows)
none_gone counts name rows h is = subst (λ l. AreCounts counts l) (sym (none_less name rows (sym h))) is

pub counts_released : (counts : Counts) (conn : ConnId) (rows : List CacheItem) → AreCounts counts rows
    → AreCounts counts (map (without_hold conn) rows)
counts_released counts conn rows is = record {
  storage = same_released storage_key conn (λ row. refl) _ rows is.storage;
  changed = same_released (λ r. changed_key r.class r.stg) conn (λ row. refl) _ rows is.changed;
  castout = same_released (λ r. r.class) conn (λ row. refl) _ rows is.castout;
}

one_retaken : (key : CacheItem → Option ℕ) (counts : List ℕ) (rows : List CacheItem) (row : CacheItem)
    → pairwise names_apart rows ≡ true → row_of row.name rows ≡ Some row → IsCount key counts rows
    → IsCount key counts (rows_replaced row rows)
one_retaken key counts rows row apart own is k lt =
    let f = λ (r : CacheItem). ones k (key r) in
    is k lt ∙ sym (sum_less row.name rows row apart own f) ∙ sym (sum_with f row (rows_without row.name rows))

counts_retaken : (counts : Counts) (rows : List CacheItem) (row : CacheItem) → pairwise names_apart rows ≡ true
    → row_of row.name rows ≡ Some row → AreCounts counts rows → AreCounts counts (rows_replaced row rows)
counts_retaken counts rows row apart own is = record {
  storage = one_retaken storage_key _ rows row apart own is.storage;
  changed = one_retaken (λ r. changed_key r.class r.stg) _ rows row apart own is.changed;
  castout = one_retaken (λ r. r.class) _ rows row apart own is.castout;
}

pub totals_retaken : (totals : Totals) (name : Name16) (rows after : List CacheItem)
    → pairwise names_apart rows ≡ true → after ≡ retaken (row_of name rows) rows → IsTotals totals rows
    → IsTotals totals after
totals_retaken totals name rows after apart e is =
    subst (λ l. IsTotals totals l) (sym e) (go (row_of name rows) refl)
  where
    go : (o : Option CacheItem) → row_of name rows ≡ o → IsTotals totals (retaken o rows)
    go None h = is
    go (Some row) h =
        let named : row.name ≡ name = found_named name rows row h in
        record {
          tally = tally_retaken totals.tally name rows row apart h named is.tally;
          counts = counts_retaken totals.counts rows row apart (ap (λ n. row_of n rows) named ∙ h) is.counts;
        }

-- ---- what is told of them

told : (key : CacheItem → Option ℕ) (p : CacheItem → Bool) (counts : List ℕ) (rows : List CacheItem) (k n : ℕ)
    → IsCount key counts rows → k < 17 → n ≡ slice_index_or counts k 0 → ((row : CacheItem) → is_key k (key row) ≡ p row)
    → n ≡ length (filter p rows)
told key p counts rows k n is lt at same =
    let q = λ (row : CacheItem). is_key k (key row) in
    let all : sum_by (λ row. ones k (key row)) rows ≡ length (filter q rows) = sym (length-filter q rows) in
    at ∙ is k lt ∙ all ∙ ap (λ (l : List CacheItem). length l) (filter_agree q p same rows)

pub storage_told : (counts : Counts) (rows : List CacheItem) (stg n : ℕ) → AreCounts counts rows → stg < 17
    → n ≡ slice_index_or counts.storage stg 0 → n ≡ length (filter (has_storage stg) rows)
storage_told counts rows stg n is lt at =
    told storage_key (has_storage stg) _ rows stg n is.storage lt at (λ row. refl)

same_changed : (stg other : ℕ) (class : Option ℕ) → is_key stg (changed_key class other)
    ≡ is_key stg (Some other) && is_some class
same_changed stg other None = grind arith
same_changed stg other (Some class) = grind arith

pub changed_told : (counts : Counts) (rows : List CacheItem) (stg n : ℕ) → AreCounts counts rows → stg < 17
    → n ≡ slice_index_or counts.changed stg 0 → n ≡ length (filter (λ row. has_storage stg row && is_changed row) rows)
changed_told counts rows stg n is lt at = told (λ r. changed_key r.class r.stg)
    (λ row. has_storage stg row && is_changed row) _ rows stg n is.changed lt at
    (λ row. same_changed stg row.stg row.class)

pub class_told : (counts : Counts) (rows : List CacheItem) (class n : ℕ) → AreCounts counts rows → class < 17
    → n ≡ slice_index_or counts.castout class 0 → n ≡ rows_of_class rows class
class_told counts rows class n is lt at =
    told (λ r. r.class) (has_class class) _ rows class n is.castout lt at (λ row. same row.class row refl)
  where
    same : (o : Option ℕ) (row : CacheItem) → row.class ≡ o → is_key class row.class ≡ has_class class row
    same None row e = grind arith
    same (Some other) row e = grind arith
