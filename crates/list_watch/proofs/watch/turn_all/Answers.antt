use Rattle.list_watch.proofs.Imports.{arith, mapped_more, row_turned}
use Rattle.list_watch.proofs.watch.turn_all.Goals as goal

pub loop-row-preserved : goal.loop-row-preserved
loop-row-preserved c =
    mapped_more (row_turned c.args.header c.args.full) c.deref_mut-row-items.result.now c.loop-row.row-items
    c.loop-row.row-index _ c.turn.new.row (omega arith) c.turn.ensures c.loop-row.invariant.0 c.loop-row.invariant.1
