use Rattle.lock_table.proofs.Imports.{arith, mapped_more, owners_without_active}
use Rattle.lock_table.proofs.table.take_active.Goals as goal

pub loop-entry-preserved : goal.loop-entry-preserved
loop-entry-preserved c =
    let next = mapped_more (owners_without_active c.args.conn) c.args.entries.now _ _ _ _
    (omega (arith, c.loop-entry.auto.entries, c.loop-entry-test.true)) c.take_active.ensures.owners
    c.loop-entry.invariant.0 c.loop-entry.invariant.1 in
    (next.0, next.1, omega (arith, c.loop-entry.invariant.2, c.take_active.ensures.spare))
