-- The bits that connectors were told stay those that stand.
use Rattle.list_kept.proofs.Imports.{list_all_weaker, ◌≡◌, ℕ, Bool, true, false, not, ◌||◌, ◌==◌, Option, Some, List, [], ◌∷◌, filter, refl, arith, list_all, and_parts, and_from, false≢true, eqb-true, nat_tests, list_all-append, ConnId, BitChange, Gains, list_all-filter, Lists, all_records, ids_apart, record_of, spot_of, lists_without, Monitor, Watched, monitors_of, bit_of, row_turned, rows_turned, rows_with, differs, is_turned, gains_none, Content, has_records, Key16, EntryId, pairwise, Spot, full-elsewhere, full-others, put_back, is_told, monitors_of-others, monitors_of-with, monitors-turned, monitors_of-without}
use Rattle.list_watch.specs.Monitors as watch

-- ---- the bits that stand

equal : (a b : Bool) → not (differs a b) ≡ true → b ≡ a
equal true true e = refl
equal true false e = absurd (false≢true e)
equal false true e = absurd (false≢true e)
equal false false e = refl

same : (a : Bool) → not (differs a a) ≡ true
same true = refl
same false = refl

pub told-stands : (lists : Lists) (rows : List Watched) → list_all (is_told lists) rows ≡ true → (conn : ConnId)
    (index : ℕ) → watch.stands (monitors_of rows) (has_records lists) conn index ≡ bit_of rows conn index
told-stands lists [] h conn index = refl
told-stands lists (row ∷ rows) h conn index = grind (arith, and_parts, equal, told-stands lists rows)

pub gains-told : (lists later : Lists) (rows next : List Watched) (bits more : List BitChange)
    → list_all (is_told lists) rows ≡ true → list_all (is_told later) next ≡ true
    → Gains (bit_of rows) (bit_of next) bits more → Gains (watch.stands (monitors_of rows) (has_records lists))
    (watch.stands (monitors_of next) (has_records later)) bits more
gains-told lists later rows next bits more h k gains = grind (arith, told-stands)

-- ---- one header

-- where those that monitor it were told already, nothing is turned
same_row : (header : ℕ) (full : Bool) (row : Watched) → not (is_turned header full row) ≡ true
    → row_turned header full row ≡ row
same_row header full row h = grind (arith, equal)

pub none-turned : (header : ℕ) (full : Bool) (rows : List Watched)
    → list_all (λ row. not (is_turned header full row)) rows ≡ true → rows_turned header full rows ≡ rows
none-turned header full [] h = refl
none-turned header full (row ∷ rows) h = grind (arith, and_parts, same_row, none-turned header full rows)

pub none-gained : (rows : List Watched) (bits : List BitChange) → Gains (bit_of rows) (bit_of rows) bits bits
none-gained rows bits = gains_none (bit_of rows) (bit_of rows) bits (λ conn index. refl)

pub ruleset none_turned = (none-turned, none-gained)

-- they were told whether it has records
pub told_here : (lists : Lists) (header : ℕ) (full : Bool) (rows : List Watched) → has_records lists header ≡ full
    → list_all (is_told lists) rows ≡ true → list_all (λ row. not (is_turned header full row)) rows ≡ true
told_here lists header full rows has h = list_all_weaker (is_told lists) (λ row. not (is_turned header full row))
    (λ row told. grind (arith, eqb-true)) rows h

-- and where another one is turned before
pub told_there : (lists : Lists) (from to : ℕ) (left full : Bool) (rows : List Watched)
    → has_records lists to ≡ full → ((from == to) ≡ true → full ≡ left) → list_all (is_told lists) rows ≡ true
    → list_all (λ row. not (is_turned to full row)) (rows_turned from left rows) ≡ true
told_there lists from to left full [] has same_one h = refl
told_there lists from to left full (row ∷ rows) has same_one h =
    grind (arith, and_parts, and_from, eqb-true, same, told_there lists from to left full rows has same_one)

-- ---- told of all headers but some

abbrev pub is_told_but : (ℕ → Bool) → Lists → Watched → Bool
is_told_but spared lists row = spared row.monitor.header || is_told lists row

pub told-but : (spared : ℕ → Bool) (lists later : Lists) (rows : List Watched)
    → ((header : ℕ) → spared header ≡ false → has_records later header ≡ has_records lists header)
    → list_all (is_told lists) rows ≡ true → list_all (is_told_but spared later) rows ≡ true
told-but spared lists later rows same h =
    list_all_weaker (is_told lists) (is_told_but spared later) (grind arith) rows h

-- where a header is told, it is spared no more
pub told-turned : (header : ℕ) (spared : ℕ → Bool) (lists : Lists) (rows : List Watched)
    → list_all (is_told_but (λ h. (h == header) || spared h) lists) rows ≡ true
    → list_all (is_told_but spared lists) (rows_turned header (has_records lists header) rows) ≡ true
told-turned header spared lists [] h = refl
told-turned header spared lists (row ∷ rows) h =
    grind (arith, and_parts, eqb-true, same, told-turned header spared lists rows)

-- one header alone changed
pub told-one : (header : ℕ) (lists later : Lists) (rows : List Watched)
    → ((other : ℕ) → (other == header) ≡ false → has_records later other ≡ has_records lists other) → list_all
    (is_told lists) rows ≡ true → list_all (is_told later) (rows_turned header (has_records later header) rows) ≡ true
told-one header lists later rows same h =
    told-turned header (λ k. false) later rows (told-but _ lists later rows (grind arith) h)

-- two headers changed
pub told-two : (from to : ℕ) (lists later : Lists) (rows : List Watched)
    → ((other : ℕ) → (other == from) ≡ false → (other == to) ≡ false
    → has_records later other ≡ has_records lists other) → list_all (is_told lists) rows ≡ true → list_all
    (is_told later) (rows_turned to (has_records later to) (rows_turned from (has_records later from) rows)) ≡ true
told-two from to lists later rows same h =
    told-turned to (λ k. false) later (rows_turned from (has_records later from) rows)
    (told-turned from (λ k. (k == to) || false) later rows (told-but _ lists later rows (grind arith) h))

-- no header changed
pub told-same : (lists later : Lists) (rows : List Watched) → ((header : ℕ) → has_records later
    header ≡ has_records lists header) → list_all (is_told lists) rows ≡ true → list_all (is_told later) rows ≡ true
told-same lists later rows same h = told-but (λ k. false) lists later rows (λ k e. same k) h

-- ---- monitors come and go

pub told-filter : (p : Watched → Bool) (lists : Lists) (rows : List Watched) → list_all (is_told lists) rows ≡ true
    → list_all (is_told lists) (filter p rows) ≡ true
told-filter p lists rows h = list_all-filter (is_told lists) p rows h

pub told-with : (conn : ConnId) (index header : ℕ) (lists : Lists) (rows : List Watched) → list_all (is_told lists)
    rows ≡ true → list_all (is_told lists) (rows_with conn index header (has_records lists header) rows) ≡ true
told-with conn index header lists rows h = grind (arith, list_all-append, and_from, told-filter, same)

-- ---- contents by their parts

abbrev pub content_at : Lists → List ℕ → List (Option ConnId) → List Monitor → ℕ → Content
content_at lists limits locks monitors next =
    record { lists = lists; limits = limits; locks = locks; monitors = monitors; next = next }

pub sym_test : (a b : ℕ) → (a == b) ≡ false → (b == a) ≡ false
sym_test a b e = grind (arith, nat_tests)

-- where a record is taken out of one header and comes to another
pub full-put_back : (head : Bool) (id : EntryId) (header : ℕ)
    (key : Option Key16) (lists : Lists) (spot : Spot) (other : ℕ) → pairwise ids_apart (all_records lists) ≡ true
    → spot_of id lists ≡ Some spot → (other == spot.header) ≡ false → (other == header) ≡ false → has_records
    (put_back head header key (record_of id lists) (lists_without id lists)) other ≡ has_records lists other
full-put_back head id header key lists spot other apart there e f =
    grind (arith, full-others, sym_test, full-elsewhere)

-- what a step does to the rows it does to the monitors
pub ruleset monitors_told = (monitors_of-others, monitors_of-with, monitors_of-without, monitors-turned)
