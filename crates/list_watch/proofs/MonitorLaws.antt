-- Monitors stay one for an index and one for a header.
use Rattle.list_watch.proofs.Imports.{◌≡◌, ℕ, ◌≤◌, Bool, true, not, ◌&&◌, ◌==◌, List, [], ◌∷◌, ◌++◌, filter, map, length, find, option_map, refl, sym, subst, arith, list_all, and_parts, nat_tests, map-append, list_all-map, ConnId, pairwise, list_all_weaker, list_all-filter_same, filter_none, none_from_all, pairwise-filter, pairwise_push, mapped_pairs, Monitor, Watched, is_for, is_replaced, monitors_with, monitors_without, monitors_of_others, places_apart, headers_apart, AreMonitors, monitors_of, rows_turned, rows_with, rows_without, rows_of_others, rows_put, length-filter-le}
use Rattle.list_watch.proofs.BitLaws.{is_elsewhere, monitors-turned}

-- ---- rows as monitors

pub find-map : {X Y : Type 0} (p : Y → Bool) (f : X → Y) (xs : List X) → find p (map f xs) ≡ option_map f
    (find (λ x. p (f x)) xs)
find-map p f [] = refl
find-map p f (x ∷ xs) = grind (arith, find-map p f xs)

pub filter-map : {X Y : Type 0} (p : Y → Bool) (f : X → Y) (xs : List X) → filter p (map f xs) ≡ map f
    (filter (λ x. p (f x)) xs)
filter-map p f [] = refl
filter-map {Y = Y} p f (x ∷ xs) = grind (arith, filter-map p f xs)

pub monitors-filter : (p : Watched → Bool) (rows : List Watched) → AreMonitors (monitors_of rows)
    → AreMonitors (monitors_of (filter p rows))
monitors-filter p rows are = grind (arith, mapped_pairs, pairwise-filter)

pub monitors-turn : (header : ℕ) (full : Bool) (rows : List Watched) → AreMonitors (monitors_of rows)
    → AreMonitors (monitors_of (rows_turned header full rows))
monitors-turn header full rows are = subst AreMonitors (sym (monitors-turned header full rows)) are

-- ---- a monitor comes

-- the connector's monitor of the header elsewhere goes first, and then what stands at the index
pub rows-with : (conn : ConnId) (index header : ℕ) (full : Bool) (rows : List Watched)
    → let new : Watched = record { monitor = record { conn = conn; index = index; header = header }; full = full } in
    rows_put new (filter (λ row. not (is_elsewhere new row)) rows) ≡ rows_with conn index header full rows
rows-with conn index header full [] = refl
rows-with conn index header full (row ∷ rows) = grind (arith, rows-with conn index header full rows)

pushed : (relation : Monitor → Monitor → Bool) (rows : List Watched) (new : Watched)
    → pairwise relation (monitors_of rows) ≡ true → list_all (λ row. relation row.monitor new.monitor) rows ≡ true
    → pairwise relation (monitors_of (rows ++ new ∷ [])) ≡ true
pushed relation rows new h e = grind (arith, map-append, pairwise_push, list_all-map)

pub monitors-with : (conn : ConnId) (index header : ℕ) (full : Bool) (rows : List Watched)
    → AreMonitors (monitors_of rows) → AreMonitors (monitors_of (rows_with conn index header full rows))
monitors-with conn index header full rows are =
    let new : Watched = record { monitor = record { conn = conn; index = index; header = header }; full = full } in
    let kept = λ (row : Watched). not (is_replaced conn index header row.monitor) in
    let all = list_all-filter_same kept rows in
    let still = monitors-filter kept rows are in
    record {
      one_at_index = pushed places_apart (filter kept rows) new still.one_at_index (list_all_weaker kept
          (λ row. places_apart row.monitor new.monitor) (grind (arith, nat_tests)) (filter kept rows) all);
      one_for_header = pushed headers_apart (filter kept rows) new still.one_for_header (list_all_weaker kept
          (λ row. headers_apart row.monitor new.monitor) (grind (arith, nat_tests)) (filter kept rows) all);
    }

-- ---- one at most of a connector for a header

same_for : (row other : Watched) (conn : ConnId) (header : ℕ) → is_for conn header row.monitor ≡ true
    → headers_apart row.monitor other.monitor ≡ true → not (is_for conn header other.monitor) ≡ true
same_for row other conn header h e = grind (arith, nat_tests)

pub one_for : (conn : ConnId) (header : ℕ) (rows : List Watched) → pairwise headers_apart (monitors_of rows) ≡ true
    → length (filter (λ r. is_for conn header r.monitor) rows) ≤ 1
one_for conn header [] h = omega arith
one_for conn header (row ∷ rows) h = grind (
  arith,
  none_from_all,
  list_all_weaker,
  same_for,
  filter_none,
  list_all-map,
  and_parts,
  one_for conn header rows,
)

-- of those at another index that stand, too
pub one_elsewhere : (conn : ConnId) (index header : ℕ) (rows : List Watched) → pairwise headers_apart
    (monitors_of rows) ≡ true
    → length (filter (λ r. r.full && (is_for conn header r.monitor && not (r.monitor.index == index))) rows) ≤ 1
one_elsewhere conn index header rows h = grind (arith, one_for, fewer)
  where
    fewer : (xs : List Watched) → length (filter (λ r. r.full && (is_for conn header r.monitor
        && not (r.monitor.index == index))) xs) ≤ length (filter (λ r. is_for conn header r.monitor) xs)
    fewer [] = omega arith
    fewer (x ∷ xs) = grind (arith, fewer xs)

-- ---- as lists of monitors

pub monitors_of-with : (conn : ConnId) (index header : ℕ) (full : Bool) (rows : List Watched)
    → monitors_of (rows_with conn index header full rows) ≡ monitors_with conn index header (monitors_of rows)
monitors_of-with conn index header full rows = grind (arith, map-append, filter-map)

pub monitors_of-without : (conn : ConnId) (header : ℕ) (rows : List Watched)
    → monitors_of (rows_without conn header rows) ≡ monitors_without conn header (monitors_of rows)
monitors_of-without conn header rows = grind (arith, filter-map)

pub monitors_of-others : (conn : ConnId) (rows : List Watched)
    → monitors_of (rows_of_others conn rows) ≡ monitors_of_others conn (monitors_of rows)
monitors_of-others conn rows = grind (arith, filter-map)

pub ruleset fewer = (length-filter-le)
