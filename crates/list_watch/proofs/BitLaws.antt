-- The bits that change when monitors come, turn and end.
use Rattle.list_watch.proofs.Imports.{◌≡◌, ℕ, Bool, true, false, not, ◌&&◌, ◌||◌, ◌==◌, if◌then◌else◌, List, [], ◌∷◌, ◌++◌, filter, map, refl, sym, ap, ◌∙◌, inl, ◌⊎◌, arith, list_any, list_all, and_parts, false≢true, eqb-true, nat_tests, list_all-map, list_any-append, any-filter_same, ConnId, BitChange, Gains, bits_told, difference, gains_none, gains_one, gains_then, pairwise, none_from_all, list_all_weaker, Watched, is_at, is_for, places_apart, monitors_of, is_lit, bit_of, row_turned, change_to, differs, turn_changes, rows_put}

-- ---- one monitor at most at an index

abbrev pub stands_at : ConnId → ℕ → Watched → Bool
stands_at conn index row = is_at conn index row.monitor

same_place : (c i d j k n : ℕ) → (c == k) && (i == n) ≡ true → not ((c == d) && (i == j)) ≡ true
    → not ((d == k) && (j == n)) ≡ true
same_place c i d j k n h e = grind (arith, nat_tests)

-- where one stands at an index, no later one does
none_later : (row : Watched) (rows : List Watched) (conn : ConnId) (index : ℕ) → pairwise places_apart
    (monitors_of (row ∷ rows)) ≡ true → stands_at conn index row ≡ true → list_any (stands_at conn index) rows ≡ false
none_later row rows conn index apart here =
    grind (arith, none_from_all, list_all_weaker, same_place, list_all-map, and_parts)

rest_apart : (row : Watched) (rows : List Watched) → pairwise places_apart (monitors_of (row ∷ rows)) ≡ true
    → pairwise places_apart (monitors_of rows) ≡ true
rest_apart row rows apart = (and_parts (list_all (places_apart row.monitor) (monitors_of rows))
    (pairwise places_apart (monitors_of rows)) apart).1

-- nobody there, so no bit and nothing told
dark : (conn : ConnId) (index : ℕ) (rows : List Watched) → list_any (stands_at conn index) rows ≡ false
    → bit_of rows conn index ≡ false
dark conn index [] e = refl
dark conn index (row ∷ rows) e = grind (arith, false≢true, dark conn index rows)

dark_filter : (p : Watched → Bool) (conn : ConnId) (index : ℕ) (rows : List Watched)
    → list_any (stands_at conn index) rows ≡ false → bit_of (filter p rows) conn index ≡ false
dark_filter p conn index [] e = refl
dark_filter p conn index (row ∷ rows) e = grind (arith, false≢true, dark_filter p conn index rows)

stands_map : (f : Watched → Watched) → ((row : Watched) → (f row).monitor ≡ row.monitor) → (conn : ConnId) (index : ℕ)
    (rows : List Watched) → list_any (stands_at conn index) (map f rows) ≡ list_any (stands_at conn index) rows
stands_map f same conn index [] = refl
stands_map f same conn index (row ∷ rows) = grind (arith, stands_map f same conn index rows)

dark_map : (f : Watched → Watched) → ((row : Watched) → (f row).monitor ≡ row.monitor) → (conn : ConnId) (index : ℕ)
    (rows : List Watched) → list_any (stands_at conn index) rows ≡ false → bit_of (map f rows) conn index ≡ false
dark_map f same conn index rows e = grind (arith, dark, stands_map)

quiet : (bit : Bool) (p : Watched → Bool) (conn : ConnId) (index : ℕ) (rows : List Watched)
    → list_any (stands_at conn index) rows ≡ false → bits_told (map (change_to bit) (filter p rows)) conn index ≡ []
quiet bit p conn index [] e = refl
quiet bit p conn index (row ∷ rows) e = grind (arith, false≢true, quiet bit p conn index rows)

-- ---- monitors end

ended_told : (p : Watched → Bool) (conn : ConnId) (index : ℕ) (rows : List Watched) → pairwise
    places_apart (monitors_of rows) ≡ true → bits_told (map (change_to false) (filter (λ r. r.full && p r) rows))
    conn index ≡ difference (bit_of rows conn index) (bit_of (filter (λ r. not (p r)) rows) conn index)
ended_told p conn index [] apart = refl
ended_told p conn index (row ∷ rows) apart =
    grind (arith, quiet, dark_filter, dark, none_later, rest_apart, ended_told p conn index rows)

-- each monitor that ends clears its bit
pub gains_ended : (p : Watched → Bool) (rows : List Watched) (bits : List BitChange) → pairwise
    places_apart (monitors_of rows) ≡ true → Gains (bit_of rows) (bit_of (filter (λ row. not (p row)) rows))
    bits (bits ++ map (change_to false) (filter (λ row. row.full && p row) rows))
gains_ended p rows bits apart = grind (arith, ended_told)

-- ---- the monitors of a header turn

same_monitor : (header : ℕ) (full : Bool) (row : Watched) → (row_turned header full row).monitor ≡ row.monitor
same_monitor header full row = grind arith

turned_told : (header : ℕ) (full : Bool) (conn : ConnId) (index : ℕ) (rows : List Watched)
    → pairwise places_apart (monitors_of rows) ≡ true → bits_told (turn_changes header full rows)
    conn index ≡ difference (bit_of rows conn index) (bit_of (map (row_turned header full) rows) conn index)
turned_told header full conn index [] apart = refl
turned_told header true conn index (row ∷ rows) apart =
    grind (arith, quiet, dark, dark_map, same_monitor, none_later, rest_apart, turned_told header true conn index rows)
turned_told header false conn index (row ∷ rows) apart =
    grind (arith, quiet, dark, dark_map, same_monitor, none_later, rest_apart, turned_told header false conn index rows)

pub gains_turned : (header : ℕ) (full : Bool) (rows : List Watched) (bits : List BitChange) → pairwise places_apart
    (monitors_of rows) ≡ true
    → Gains (bit_of rows) (bit_of (map (row_turned header full) rows)) bits (bits ++ turn_changes header full rows)
gains_turned header full rows bits apart = grind (arith, turned_told)

-- the monitors stay
pub monitors-turned : (header : ℕ) (full : Bool) (rows : List Watched)
    → monitors_of (map (row_turned header full) rows) ≡ monitors_of rows
monitors-turned header full [] = refl
monitors-turned header full (row ∷ rows) = grind (arith, same_monitor, monitors-turned header full rows)

-- ---- a monitor comes

-- without what stood at an index
lit_elsewhere : (rows : List Watched) (by conn : ConnId) (index i : ℕ) → bit_of (filter (λ r. not (is_at
    by index r.monitor)) rows) conn i ≡ (not ((by.0 == conn.0) && (index == i)) && bit_of rows conn i)
lit_elsewhere [] by conn index i = grind arith
lit_elsewhere (row ∷ rows) by conn index i = grind (arith, nat_tests, lit_elsewhere rows by conn index i)

-- with the new one behind
lit_put : (new : Watched) (rows : List Watched) (conn : ConnId) (i : ℕ) → bit_of (rows_put new rows)
    conn i ≡ (not ((new.monitor.conn.0 == conn.0) && (new.monitor.index == i)) && bit_of rows conn i)
    || ((((new.monitor.conn.0 == conn.0) && (new.monitor.index == i)) && new.full) || false)
lit_put new rows conn i = list_any-append (is_lit conn i) (filter (λ r. not (is_at new.monitor.conn new.monitor.index
    r.monitor)) rows) (new ∷ []) ∙ ap (λ b. b || ((((new.monitor.conn.0 == conn.0) && (new.monitor.index == i))
    && new.full) || false)) (lit_elsewhere rows new.monitor.conn conn new.monitor.index i)

other_bits : (a x y : Bool) → a ≡ false → (not a && x) || ((a && y) || false) ≡ x
other_bits false true y e = refl
other_bits false false y e = refl
other_bits true x y e = absurd (false≢true (sym e))

own_bit : (a x y : Bool) → a ≡ true → (not a && x) || ((a && y) || false) ≡ y
own_bit true x true e = refl
own_bit true x false e = refl
own_bit false x y e = absurd (false≢true e)

lit_put-other : (new : Watched) (rows : List Watched) (conn : ConnId) (i : ℕ) → (new.monitor.conn.0 == conn.0)
    && (new.monitor.index == i) ≡ false → bit_of (rows_put new rows) conn i ≡ bit_of rows conn i
lit_put-other new rows conn i e = grind (arith, lit_put, other_bits)

self : (a b : ℕ) → (a == a) && (b == b) ≡ true
self a b = grind (arith, nat_tests)

lit_put-here : (new : Watched) (rows : List Watched) → bit_of (rows_put new rows) new.monitor.conn new.monitor.index ≡
    new.full
lit_put-here new rows = grind (arith, lit_put, own_bit, self)

same_pair : (new : Watched) (rows : List Watched) (conn : ConnId) (i : ℕ) (b : Bool) → (new.monitor.conn.0 == conn.0)
    && (new.monitor.index == i) ≡ b
    → bit_of rows new.monitor.conn new.monitor.index ≡ new.full → bit_of (rows_put new rows) conn i ≡ bit_of rows conn i
same_pair new rows conn i true e stood = grind (arith, and_parts, eqb-true, lit_put-here)
same_pair new rows conn i false e stood = lit_put-other new rows conn i e

-- its bit is told where it stood otherwise
pub gains_put : (new : Watched) (rows : List Watched) (bits : List BitChange) → Gains (bit_of rows)
    (bit_of (rows_put new rows)) bits (if differs (bit_of rows new.monitor.conn new.monitor.index) new.full
    then bits ++ record { conn = new.monitor.conn; index = new.monitor.index; bit = new.full } ∷ [] else bits)
gains_put new rows bits = grind (arith, lit_put-here, gains_one, lit_put-other, gains_none, same_pair)

-- ---- first the connector's monitor of the header elsewhere ends, and then it comes

abbrev pub is_elsewhere : Watched → Watched → Bool
is_elsewhere new row = is_for new.monitor.conn new.monitor.header row.monitor
    && not (row.monitor.index == new.monitor.index)

pub gains_with : (new : Watched) (rows : List Watched) (xs ys zs : List BitChange)
    → let middle = filter (λ row. not (is_elsewhere new row)) rows in
    Gains (bit_of rows) (bit_of middle) xs ys → Gains (bit_of middle) (bit_of (rows_put new middle)) ys zs
    → Gains (bit_of rows) (bit_of (rows_put new middle)) xs zs
gains_with new rows xs ys zs first second = grind (arith, gains_then, once)
  where
    once : (conn : ConnId) (i : ℕ) (b : Bool) → (new.monitor.conn.0 == conn.0) && (new.monitor.index == i) ≡ b
        → (bit_of (filter (λ row. not (is_elsewhere new row)) rows) conn i ≡ bit_of rows conn i)
        ⊎ (bit_of (rows_put new (filter (λ row. not (is_elsewhere new row)) rows)) conn i ≡ bit_of
        (filter (λ row. not (is_elsewhere new row)) rows) conn i)
    once conn i true e =
        inl (any-filter_same (is_lit conn i) (λ row. not (is_elsewhere new row)) true (grind (arith, nat_tests)) rows)
    once conn i false e = grind (arith, lit_put-other)

-- ---- two headers turn

row_two : (a b : ℕ) (x y : Bool) → ((a == b) ≡ true → y ≡ x) → (row : Watched)
    → ((row_turned a x row).full ≡ row.full) ⊎ ((row_turned b y (row_turned a x row)).full ≡ (row_turned a x row).full)
row_two a b x y same row = grind (arith, nat_tests)

two_once : (a b : ℕ) (x y : Bool) → ((a == b) ≡ true → y ≡ x)
    → (conn : ConnId) (index : ℕ) (rows : List Watched) → pairwise places_apart (monitors_of rows) ≡ true
    → (bit_of (map (row_turned a x) rows) conn index ≡ bit_of rows conn index) ⊎ (bit_of
    (map (row_turned b y) (map (row_turned a x) rows)) conn index ≡ bit_of (map (row_turned a x) rows) conn index)
two_once a b x y same conn index [] apart = inl refl
two_once a b x y same conn index (row ∷ rows) apart =
    let rest = rest_apart row rows apart in
    grind (
      arith,
      dark,
      dark_map,
      stands_map,
      same_monitor,
      none_later,
      row_two a b x y same row,
      two_once a b x y same conn index rows rest,
    )

-- no bit changes twice, also where both are one header
pub gains_two : (a b : ℕ) (x y : Bool) (rows : List Watched) (xs ys zs : List BitChange) → ((a == b) ≡ true → y ≡ x)
    → pairwise places_apart (monitors_of rows) ≡ true → Gains (bit_of rows) (bit_of (map (row_turned a x) rows)) xs ys
    → Gains (bit_of (map (row_turned a x) rows)) (bit_of (map (row_turned b y) (map (row_turned a x) rows))) ys zs
    → Gains (bit_of rows) (bit_of (map (row_turned b y) (map (row_turned a x) rows))) xs zs
gains_two a b x y rows xs ys zs same apart first second = grind (arith, gains_then, two_once)
