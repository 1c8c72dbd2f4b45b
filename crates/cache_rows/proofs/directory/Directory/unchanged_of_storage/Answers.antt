use Rattle.cache_rows.proofs.IndexedLaws.{unchanged_storage}
use Rattle.cache_rows.proofs.directory.Directory.unchanged_of_storage.Goals as goal

pub returns : goal.returns
returns c = rw (← c.self.view_is) (unchanged_storage _ _ c.self.inside.classes.names
    c.self.inside.order.order c.self.invariant c.args.stg c.count.result c.count.ensures)
