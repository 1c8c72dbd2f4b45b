use Rattle.lock_queue.proofs.Imports.{length, refl, List, length-append, counted_next, counted_past, Waiter}
use Rattle.lock_queue.proofs.queue.count_all.Goals as goal

pub loop-waiters-preserved : goal.loop-waiters-preserved
loop-waiters-preserved c = counted_next (λ (l : List Waiter). length l) length-append _ _
    _ _ _ _ c.loop-waiters-test.true c.waiters-item.is c.len-count.ensures.value c.loop-waiters.invariant

pub returns : goal.returns
returns c = counted_past (λ (l : List Waiter). length l) length-append _ _ _ _ c.loop-waiters-test.false refl
    c.loop-waiters.invariant
