-- Records counted and looked for, a header at a time.
use Rattle.list_kept.proofs.Imports.{arith, ◌≡◌, ℕ, ◌+◌, ◌≤◌, ◌<◌, not, List, ◌∷◌, length, length-append, drop, drop_more, sum_by-filter-le, EntryId, Record, Lists, records_of, records_without, is_id, count_of, list_of-get_or, elements_in, size}

pub drop_lists : (lists : Lists) (h : ℕ) → h < length lists → drop h lists ≡ records_of lists h ∷ drop (h + 1) lists
drop_lists lists h lt = grind (arith, drop_more, list_of-get_or)

pub count_more : (lists : Lists) (h : ℕ) → h < length lists
    → count_of (drop h lists) ≡ length (records_of lists h) + count_of (drop (h + 1) lists)
count_more lists h lt = grind (arith, length-append, drop_lists)

pub elements_fewer : (id : EntryId) (recs : List Record) → elements_in (records_without id recs) ≤ elements_in recs
elements_fewer id recs = sum_by-filter-le size (λ rec. not (is_id id rec)) recs
