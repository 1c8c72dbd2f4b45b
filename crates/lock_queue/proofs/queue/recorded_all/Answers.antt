use Rattle.lock_queue.proofs.Imports.{refl, arith, recorded_in, counted_next, counted_past}
use Rattle.lock_queue.proofs.CountLaws.{recorded_parts}
use Rattle.lock_queue.proofs.queue.recorded_all.Goals as goal

pub overflow_add-count : goal.overflow_add-count
overflow_add-count c =
    let next = counted_next recorded_in recorded_parts _ _ _ _ _ _ c.loop-waiters-test.true c.waiters-item.is
    c.recorded_in-count.ensures c.loop-waiters.invariant in
    omega (arith, next, c.requires)

pub loop-waiters-preserved : goal.loop-waiters-preserved
loop-waiters-preserved c = counted_next recorded_in recorded_parts
    _ _ _ _ _ _ c.loop-waiters-test.true c.waiters-item.is c.recorded_in-count.ensures c.loop-waiters.invariant

pub returns : goal.returns
returns c = counted_past recorded_in recorded_parts _ _ _ _ c.loop-waiters-test.false refl c.loop-waiters.invariant
