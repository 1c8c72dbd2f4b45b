-- Monitors as triples, and back.
use Rattle.list_core.proofs.Imports.{◌≡◌, ℕ, ◌+◌, Bool, true, false, not, cond, List, [], ◌∷◌, map, refl, sym, ap, arith, list_all, and_from, false≢true, Lists, Monitor, Watched, monitors_of, differs, Triple, triple_of, monitor_of, is_told, told_row, length-items, drop_lists, row-here, IfOk-weaker, row-later, count_more, none_within, none_shown}

pub map-triples : (rows : List Watched) → map (λ (row : Watched). triple_of row.monitor) rows ≡ map triple_of
    (monitors_of rows)
map-triples [] = refl
map-triples (row ∷ rows) = ap (λ (l : List Triple). triple_of row.monitor ∷ l) (map-triples rows)

pub monitors-told_rows : (lists : Lists) (watches : List Triple) → monitors_of (map (told_row lists) watches) ≡ map
    monitor_of watches
monitors-told_rows lists [] = refl
monitors-told_rows lists (watch ∷ watches) = ap (λ (l : List Monitor). monitor_of watch ∷ l)
    (monitors-told_rows lists watches)

same : (a : Bool) → not (differs a a) ≡ true
same true = refl
same false = refl

pub told-told_rows : (lists : Lists) (watches : List Triple) → list_all (is_told lists) (map (told_row lists) watches)
    ≡ true
told-told_rows lists [] = refl
told-told_rows lists (watch ∷ watches) = grind (arith, and_from, same, told-told_rows lists watches)

-- ---- one item more where there are controls

pub one_more : (b : Bool) (n m : ℕ) → n ≡ cond b 1 0 + m → b ≡ true → n ≡ 1 + m
one_more true n m e h = e
one_more false n m e h = absurd (false≢true h)

pub no_more : (b : Bool) (n m : ℕ) → n ≡ cond b 1 0 + m → b ≡ false → n ≡ m
no_more true n m e h = absurd (false≢true (sym h))
no_more false n m e h = omega (arith, e)

-- how many items there are
pub ruleset items_told = (no_more, one_more, length-items)

-- the item at a place
pub ruleset rows_told = (IfOk-weaker, row-here, row-later, drop_lists, count_more, none_within, none_shown)

pub ruleset placed_told = (monitors-told_rows, told-told_rows, map-triples)
