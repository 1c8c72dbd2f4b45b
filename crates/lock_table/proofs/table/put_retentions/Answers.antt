use Rattle.lock_table.proofs.Imports.{arith, mapped_more, owners_retained_of}
use Rattle.lock_table.proofs.table.put_retentions.Goals as goal

pub loop-entry-preserved : goal.loop-entry-preserved
loop-entry-preserved c = mapped_more (owners_retained_of c.args.conn c.args.retained) c.args.entries.now _ _ _ _
    (omega (arith, c.loop-entry.auto.entries, c.loop-entry-test.true)) c.set_retained_of.ensures
    c.loop-entry.invariant.0 c.loop-entry.invariant.1
