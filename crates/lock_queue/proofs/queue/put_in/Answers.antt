use Rattle.lock_queue.proofs.Imports.{prefix_len-le-length, Waiter, is_ahead}
use Rattle.lock_queue.proofs.queue.put_in.Goals as goal

pub insert_copy-requires-clause-place : goal.insert_copy-requires-clause-place
insert_copy-requires-clause-place c =
    rw c.spot_in-at.ensures (prefix_len-le-length (λ (other : Waiter). is_ahead other c.args.waiter) c.args.waiters.now)
