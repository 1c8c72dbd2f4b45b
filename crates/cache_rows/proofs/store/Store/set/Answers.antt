use Rattle.cache_rows.proofs.Imports.{arith}
use Rattle.cache_rows.proofs.StoreLaws.{set_items, shown_at, shown_writes}
use Rattle.cache_rows.proofs.store.Store.set.Goals as goal

pub returns-clause-writes : goal.returns-clause-writes
returns-clause-writes c =
    let label = c.args.label.now in
    let chains = c.self.inside.pool.chains in
    rw (← c.self.view_is) (grind (arith, shown_writes, set_items, shown_at))
