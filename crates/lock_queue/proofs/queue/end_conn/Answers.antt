use Rattle.lock_queue.proofs.Imports.{◌≡◌, ◌≤◌, List, map, not, length, ap, arith, ConnId, length-filter-le, joined, left_seen, left_table, length_seen, Waiter, is_by, waiters_without_conn, part_of, waiters_in, AreEntries}
use Rattle.lock_queue.proofs.{CountLaws.recorded_few, WaiterLaws.queue-filter}
use Rattle.lock_queue.proofs.queue.end_conn.Goals as goal

left : (conn : ConnId) (entries new : List (List Waiter)) → AreEntries entries
    → new ≡ map (waiters_without_conn conn) entries → waiters_in new ≡ waiters_without_conn conn (waiters_in entries)
left conn entries new is e = grind (arith, left_seen)

fewer : (conn : ConnId) (entries new : List (List Waiter)) → AreEntries entries
    → new ≡ map (waiters_without_conn conn) entries → length (joined new) ≤ length (waiters_in entries)
fewer conn entries new is e = omega (
  arith,
  length_seen part_of new,
  ap (λ (l : List Waiter). length l) (left conn entries new is e),
  length-filter-le (λ (waiter : Waiter). not (is_by conn waiter)) (waiters_in entries),
)

pub count_all-count-requires : goal.count_all-count-requires
count_all-count-requires c = grind (arith, fewer)

pub returns-clause-kept : goal.returns-clause-kept
returns-clause-kept c = rw c.take_out_conn.ensures.entries
    (left_table part_of _ _ c.requires.kept (λ (waiter : Waiter). not (is_by c.args.conn waiter)))

pub returns-clause-fits : goal.returns-clause-fits
returns-clause-fits c = grind (arith, fewer)

pub returns-clause-less : goal.returns-clause-less
returns-clause-less c = grind (arith, fewer)

pub returns-clause-queue : goal.returns-clause-queue
returns-clause-queue c = rw (left c.args.conn _ _ c.requires.kept c.take_out_conn.ensures.entries)
    (queue-filter _ _ c.requires.queue)

pub recorded_all-recorded-requires : goal.recorded_all-recorded-requires
recorded_all-recorded-requires c = grind (arith, recorded_few, fewer)

pub returns-clause-recorded_fits : goal.returns-clause-recorded_fits
returns-clause-recorded_fits c = grind (arith, recorded_few, fewer)
