use Rattle.lock_queue.proofs.Imports.{Bool, length, filter, refl, arith, List, counted_next, counted_past, length-kept_append, resource_before, Resource, length-filter-le, joined, Waiter}
use Rattle.lock_queue.proofs.queue.count_all_ahead.Goals as goal

abbrev before : Resource → Waiter → Bool
before r waiter = resource_before waiter.r r

pub overflow_add-count : goal.overflow_add-count
overflow_add-count c =
    let next = counted_next (λ (l : List Waiter). length (filter (before c.args.r.now) l))
    (length-kept_append (before c.args.r.now)) _ _ _ _ _ _ c.loop-waiters-test.true c.waiters-item.is
    c.count_ahead-count.ensures c.loop-waiters.invariant in
    omega (arith, next, length-filter-le (before c.args.r.now) (joined c.args.entries.now), c.requires)

pub loop-waiters-preserved : goal.loop-waiters-preserved
loop-waiters-preserved c = counted_next (λ (l : List Waiter). length (filter (before c.args.r.now) l))
    (length-kept_append (before c.args.r.now)) _ _ _ _ _ _ c.loop-waiters-test.true c.waiters-item.is
    c.count_ahead-count.ensures c.loop-waiters.invariant

pub returns : goal.returns
returns c = counted_past (λ (l : List Waiter). length (filter (before c.args.r.now) l))
    (length-kept_append (before c.args.r.now)) _ _ _ _ c.loop-waiters-test.false refl c.loop-waiters.invariant
