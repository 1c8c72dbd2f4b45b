use Rattle.lock_queue.proofs.Imports.{map, map-append, resource_of, refl}
use Rattle.lock_queue.proofs.CountLaws.{keys_more, keys_end}
use Rattle.lock_queue.proofs.queue.keys_of.Goals as goal

pub loop-waiters-preserved : goal.loop-waiters-preserved
loop-waiters-preserved c = keys_more (map resource_of) (map-append resource_of) _ _ _ _ _ _ c.loop-waiters-test.true
    c.waiters-item.is c.in_ok-push_keys.ensures c.loop-waiters.invariant

pub returns : goal.returns
returns c = keys_end (map resource_of)
    (map-append resource_of) _ _ _ _ refl c.loop-waiters-test.false c.loop-waiters.invariant
