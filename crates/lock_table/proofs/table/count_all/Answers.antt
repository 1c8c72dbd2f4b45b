use Rattle.lock_table.proofs.Imports.{length, refl, arith, List, length-append, counted_next, counted_past, Held}
use Rattle.lock_table.proofs.table.count_all.Goals as goal

pub overflow_add-count : goal.overflow_add-count
overflow_add-count c =
    let next = counted_next (λ (l : List Held). length l) length-append _ _ _ _ _ _ c.loop-entry-test.true
    c.entry-item.is c.len-count.ensures c.loop-entry.invariant in
    omega (arith, next, c.requires)

pub loop-entry-preserved : goal.loop-entry-preserved
loop-entry-preserved c = counted_next (λ (l : List Held). length l) length-append _ _ _ _
    _ _ c.loop-entry-test.true c.entry-item.is c.len-count.ensures c.loop-entry.invariant

pub returns : goal.returns
returns c = counted_past (λ (l : List Held). length l) length-append _ _ _ _ c.loop-entry-test.false refl
    c.loop-entry.invariant
