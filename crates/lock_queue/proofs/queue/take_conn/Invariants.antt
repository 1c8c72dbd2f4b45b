use Rattle.lock_queue.proofs.Imports.{◌≡◌, ◌≤◌, ◌++◌, ◌-◌, length, take, drop, waiters_without_conn}
use Rattle.lock_queue.proofs.queue.take_conn.Given as goal

abbrev pub invariant-loop : goal.invariant-loop
invariant-loop l =
    let left = length l.fn.waiters - l.counter in
    (left ≤ length l.waiters) × (length l.fn.spare ≤ length l.spare) × (drop
    left l.waiters ++ waiters_without_conn l.conn (take left l.waiters) ≡ waiters_without_conn l.conn l.fn.waiters)
