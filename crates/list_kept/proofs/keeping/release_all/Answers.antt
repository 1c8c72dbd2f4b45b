use Rattle.list_kept.proofs.Imports.{arith, mapped_more, holder_without}
use Rattle.list_kept.proofs.keeping.release_all.Goals as goal

pub loop-holder-preserved : goal.loop-holder-preserved
loop-holder-preserved c = mapped_more (holder_without c.args.conn)
    c.deref_mut-holder-items.result.now c.loop-holder.holder-items c.loop-holder.holder-index
    _ c.release.new.holder (omega arith) c.release.ensures c.loop-holder.invariant.0 c.loop-holder.invariant.1
