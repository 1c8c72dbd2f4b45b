use Rattle.lock_queue.proofs.Imports.{List, map, filter, refl, Waiter, is_by, resource_of}
use Rattle.lock_queue.proofs.CountLaws.{resources_by, keys_more, keys_end}
use Rattle.lock_queue.proofs.queue.keys_by.Goals as goal

pub loop-waiters-preserved : goal.loop-waiters-preserved
loop-waiters-preserved c =
    keys_more (λ (l : List Waiter). map resource_of (filter (is_by c.args.conn) l)) (resources_by (is_by c.args.conn))
    _ _ _ _ _ _ c.loop-waiters-test.true c.waiters-item.is c.in_ok-push_keys_by.ensures c.loop-waiters.invariant

pub returns : goal.returns
returns c = keys_end (λ (l : List Waiter). map resource_of (filter (is_by c.args.conn) l))
    (resources_by (is_by c.args.conn)) _ _ _ _ refl c.loop-waiters-test.false c.loop-waiters.invariant
