use Rattle.cache_rows.proofs.Imports.{arith}
use Rattle.cache_rows.proofs.StoreLaws.{shown_at, shown_writes}
use Rattle.cache_rows.proofs.store.Store.end.Goals as goal

pub returns-clause-writes : goal.returns-clause-writes
returns-clause-writes c = rw (← c.self.view_is) (shown_writes _ _ _ _ c.args.name.now _ c.end_in.ensures.writes)

pub returns-clause-free : goal.returns-clause-free
returns-clause-free c = grind (arith, shown_at)
