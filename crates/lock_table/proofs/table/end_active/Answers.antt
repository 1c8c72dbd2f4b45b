use Rattle.lock_table.proofs.Imports.{◌≡◌, ◌≤◌, ◌&&◌, List, map, not, length, ap, arith, ConnId, length-filter-le, joined, left_seen, left_table, length_seen, Held, is_by, owners_without_active, part_of, owners_in, AreEntries}
use Rattle.lock_table.proofs.table.end_active.Goals as goal

left : (conn : ConnId) (entries new : List (List Held)) → AreEntries entries
    → new ≡ map (owners_without_active conn) entries → owners_in new ≡ owners_without_active conn (owners_in entries)
left conn entries new is e = grind (arith, left_seen)

fewer : (conn : ConnId) (entries new : List (List Held)) → AreEntries entries
    → new ≡ map (owners_without_active conn) entries → length (joined new) ≤ length (owners_in entries)
fewer conn entries new is e = omega (
  arith,
  length_seen part_of new,
  ap (λ (l : List Held). length l) (left conn entries new is e),
  length-filter-le (λ (held : Held). not (is_by conn held && not held.retained)) (owners_in entries),
)

pub count_all-requires : goal.count_all-requires
count_all-requires c = grind (arith, fewer)

pub returns-clause-kept : goal.returns-clause-kept
returns-clause-kept c = rw c.take_active.ensures.entries
    (left_table part_of _ _ c.requires.kept (λ (held : Held). not (is_by c.args.conn held && not held.retained)))

pub returns-clause-fits : goal.returns-clause-fits
returns-clause-fits c = grind (arith, fewer)

pub returns-clause-less : goal.returns-clause-less
returns-clause-less c = grind (arith, fewer)
