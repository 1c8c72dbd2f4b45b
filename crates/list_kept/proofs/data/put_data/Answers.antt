use Rattle.list_kept.proofs.Imports.{refl}
use Rattle.list_kept.proofs.DataLaws.{wanting}
use Rattle.list_kept.proofs.data.put_data.Goals as goal

pub unreachable-requires : goal.unreachable-requires
unreachable-requires c = wanting c.args.store.now c.try_data.new.store
    c.args.body.now c.requires.used c.requires.elements (c.try_data.ensures.refused.0 (rw c.in-Err.is refl))
    (rw c.in-Err.is at c.try_data.ensures.same) c.free.ensures.all
