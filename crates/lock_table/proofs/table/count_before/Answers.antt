use Rattle.lock_table.proofs.Imports.{Bool, Resource, length, filter, refl, arith, List, counted_next, counted_past, length-kept_append, resource_before, length-filter-le, joined, Held}
use Rattle.lock_table.proofs.table.count_before.Goals as goal

abbrev before : Resource → Held → Bool
before r held = resource_before held.r r

pub overflow_add-count : goal.overflow_add-count
overflow_add-count c =
    let next = counted_next (λ (l : List Held). length (filter (before c.args.r.now) l))
    (length-kept_append (before c.args.r.now)) _ _ _ _ _ _ c.loop-entry-test.true c.entry-item.is
    c.count_before-count.ensures c.loop-entry.invariant in
    omega (arith, next, length-filter-le (before c.args.r.now) (joined c.args.entries.now), c.requires)

pub loop-entry-preserved : goal.loop-entry-preserved
loop-entry-preserved c = counted_next (λ (l : List Held). length (filter (before c.args.r.now) l))
    (length-kept_append (before c.args.r.now)) _ _ _ _ _ _ c.loop-entry-test.true c.entry-item.is
    c.count_before-count.ensures c.loop-entry.invariant

pub returns : goal.returns
returns c = counted_past (λ (l : List Held). length (filter (before c.args.r.now) l))
    (length-kept_append (before c.args.r.now)) _ _ _ _ c.loop-entry-test.false refl c.loop-entry.invariant
