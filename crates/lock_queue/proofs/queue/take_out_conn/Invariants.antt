use Rattle.lock_queue.proofs.Imports.{◌≡◌, ◌≤◌, length, map, take, drop, waiters_without_conn}
use Rattle.lock_queue.proofs.queue.take_out_conn.Given as goal

abbrev pub invariant-loop-waiters : goal.invariant-loop-waiters
invariant-loop-waiters l =
    (take l.waiters-index l.entries ≡ map (waiters_without_conn l.conn) (take l.waiters-index l.initial.entries))
    × (drop l.waiters-index l.entries ≡ drop l.waiters-index l.initial.entries) × (length l.fn.spare ≤ length l.spare)
