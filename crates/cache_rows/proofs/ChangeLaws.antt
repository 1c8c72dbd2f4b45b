-- What commands do to the row of a name, and the rows that they end for it.
use Rattle.cache_model.proofs.RowLaws.{found_named}
use Rattle.cache_rows.proofs.Imports.{unwrap_or, is_some, ap, ◌∙◌, retaken, new_row, ◌≡◌, ℕ, ◌+◌, ◌≤◌, Bool, true, false, not, ◌&&◌, ◌||◌, List, [], ◌∷◌, Option, Some, None, length, drop, get_or, refl, sym, subst, arith, or_left, false≢true, drop_more, drop_all, filter_agree, Name16, same_name, filter-filter, filter_all, find-filter, find_none, list_all_always, same_name-eq, CacheItem, is_row_of, row_of, has_row, rows_with, rows_replaced, row_or_new, is_among, rows_spared, row_with, without-absent, Label, label_of, label_written, item_with, relabeled, rows_but}

-- ---- rows that go, but for one

pub but-more : (spared : Name16) (names : List Name16) (rows all : List CacheItem) (i : ℕ) (d : Name16)
    → i + 1 ≤ length names → rows_but spared (drop i names) rows ≡ all
    → rows_but spared (drop (i + 1) names) (rows_but spared (get_or names i d ∷ []) rows) ≡ all
but-more spared names rows all i d lt h = grind (arith, drop_more, filter-filter, filter_agree)

or_true : (a : Bool) → a || not false ≡ true
or_true true = refl
or_true false = refl

pub but-all : (spared : Name16) (names : List Name16) (rows all : List CacheItem) (i : ℕ) → length names ≤ i
    → rows_but spared (drop i names) rows ≡ all → rows ≡ all
but-all spared names rows all i le h = grind (arith, filter_all, list_all_always, or_true, drop_all)

-- the one that is spared stays
pub but-spared : (spared name : Name16) (rows : List CacheItem) → same_name name spared ≡ true
    → rows ≡ rows_but spared (name ∷ []) rows
but-spared spared name rows e = grind (arith, filter_all, list_all_always, here)
  where
    either : (a b : Bool) → (b ≡ true → a ≡ true) → a || not (b || false) ≡ true
    either a true f = or_left a (not (true || false)) (f refl)
    either a false f = or_true a

    here : (row : CacheItem) → is_row_of spared row || not (is_among (name ∷ []) row.name) ≡ true
    here row = either (is_row_of spared row) (same_name name row.name)
        (λ h. subst (λ (n : Name16). same_name n spared ≡ true) (same_name-eq name row.name h) e)

pub not_apart : (b : Bool) → not b ≡ false → b ≡ true
not_apart true h = refl
not_apart false h = absurd (false≢true (sym h))

others_step : (a c : Bool) → (a || not c) && not a ≡ not c && not a
others_step true c = grind arith
others_step false c = refl

pub replaced_but : (row : CacheItem) (name : Name16) (names : List Name16) (rows left : List CacheItem) → row.name
    ≡ name → left ≡ rows_but name names rows → rows_replaced row left ≡ rows_replaced row (rows_spared names rows)
replaced_but row name names rows left e f = grind (arith, filter-filter, filter_agree, others_step)

-- ---- a row with the data that it had

pub relabeled_is : (label : Label) (name : Name16) (stg : ℕ) (rows left : List CacheItem) → label.name ≡ name
    → row_of name left ≡ row_of name rows → relabeled label left ≡ item_with label (row_or_new name stg rows).body
relabeled_is label name stg rows left e f = grind arith

-- a row with what the directory says of it now, and the data that it had
pub relabeled_same : (label : Label) (name : Name16) (stg : ℕ) (rows : List CacheItem) → label.name ≡ name
    → rows_replaced (relabeled label rows) rows ≡ rows_replaced (item_with label (row_or_new name stg rows).body) rows
relabeled_same label name stg rows e = grind (arith, relabeled_is)

pub relabeled_spared : (label : Label) (name : Name16) (stg : ℕ) (names : List Name16) (rows left : List CacheItem)
    → label.name ≡ name → left ≡ rows_but name names rows → rows_replaced (relabeled label left)
    left ≡ rows_replaced (item_with label (row_or_new name stg rows).body) (rows_spared names rows)
relabeled_spared label name stg names rows left e f = grind (arith, relabeled_is, replaced_but, find-filter, or_left)

-- a row that is read, and one that comes for it
pub read_there : (name : Name16) (stg : ℕ) (names : List Name16) (rows left after : List CacheItem)
    → left ≡ rows_but name names rows → true ≡ is_some (row_of name left) → after ≡ retaken (row_of name left) left
    → after ≡ rows_replaced (row_or_new name stg rows) (rows_spared names rows)
read_there name stg names rows left after e some f = go (row_of name left) refl
  where
    same : row_of name left ≡ row_of name rows
    same = grind (arith, find-filter, or_left)

    go : (o : Option CacheItem) → row_of name left ≡ o
        → after ≡ rows_replaced (row_or_new name stg rows) (rows_spared names rows)
    go None h = absurd (false≢true (sym (some ∙ ap is_some h)))
    go (Some row) h =
        let own : row_of name rows ≡ Some row = sym same ∙ h in
        f ∙ ap (λ o. retaken o left) h ∙ replaced_but row name names rows left (found_named name rows row own) e
        ∙ ap (λ o. rows_replaced (unwrap_or o (new_row name stg)) (rows_spared names rows)) (sym own)

pub read_new : (name : Name16) (stg : ℕ) (names : List Name16) (rows left same after : List CacheItem) (label : Label)
    → left ≡ rows_but name names rows → false ≡ is_some (row_of name left) → same ≡ retaken (row_of name left) left
    → label ≡ label_of (new_row name stg) → after ≡ rows_replaced (relabeled label same) same
    → after ≡ rows_replaced (row_or_new name stg rows) (rows_spared names rows)
read_new name stg names rows left same after label e none f g h = go (row_of name left) refl
  where
    kept : row_of name left ≡ row_of name rows
    kept = grind (arith, find-filter, or_left)

    go : (o : Option CacheItem) → row_of name left ≡ o
        → after ≡ rows_replaced (row_or_new name stg rows) (rows_spared names rows)
    go None w =
        let still : same ≡ left = f ∙ ap (λ o. retaken o left) w in
        let own : row_of name rows ≡ None = sym kept ∙ w in
        h ∙ ap (λ l. rows_replaced (relabeled label l) l) still
        ∙ relabeled_spared label name stg names rows left (ap (λ (l : Label). l.name) g) e
        ∙ (grind arith)
    go (Some row) w = absurd (false≢true (none ∙ ap is_some w))

-- a row with new data
pub written_same : (old label : Label) (row : CacheItem) (name : Name16) (names : List Name16)
    (rows left : List CacheItem) (body : List ℕ) (class : Option ℕ) (adj : Option (List ℕ)) → old ≡ label_of row
    → old.name ≡ name → label ≡ label_written class adj old → left ≡ rows_but name names rows → rows_replaced
    (item_with label (Some body)) left ≡ rows_replaced (row_with body class adj row) (rows_spared names rows)
written_same old label row name names rows left body class adj of named is f = grind (arith, replaced_but)

-- ---- a row whose name has none

pub put_alone : (row : CacheItem) (rows : List CacheItem) (label : Label) (body : Option (List ℕ))
    → has_row row.name rows ≡ false → label ≡ label_of row → row.body ≡ body
    → rows_replaced (item_with label body) rows ≡ rows_with row rows
put_alone row rows label body alone e f = grind (arith, without-absent)

pub put_bare : (row : CacheItem) (rows : List CacheItem) (label : Label) → has_row row.name rows ≡ false
    → label ≡ label_of row → row.body ≡ None → rows_replaced (relabeled label rows) rows ≡ rows_with row rows
put_bare row rows label alone e f = grind (arith, find_none, put_alone)

-- ---- what functions are proved by

pub ruleset spared_told = (but-spared, not_apart)

pub ruleset put_told = (put_alone, put_bare, without-absent)
