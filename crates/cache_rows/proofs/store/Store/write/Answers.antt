use Rattle.cache_rows.proofs.Imports.{arith}
use Rattle.cache_rows.proofs.StoreLaws.{shown_at, shown_writes, writes_twice}
use Rattle.cache_rows.proofs.store.Store.write.Goals as goal

pub write_in-requires-clause-fits : goal.write_in-requires-clause-fits
write_in-requires-clause-fits c = grind (arith, shown_at)

pub returns-clause-writes : goal.returns-clause-writes
returns-clause-writes c =
    let label = c.args.label.now in
    rw (← c.self.view_is) (shown_writes _ _ _ _ _ _ (grind (arith, writes_twice)))

pub returns-clause-free : goal.returns-clause-free
returns-clause-free c = grind (arith, shown_at)
