use Rattle.cache_rows.proofs.Imports.{arith}
use Rattle.cache_rows.proofs.IndexedLaws.{names_are}
use Rattle.cache_rows.proofs.directory.Directory.names.Goals as goal

pub returns-clause-names : goal.returns-clause-names
returns-clause-names c = rw (← c.self.view_is)
    (names_are _ _ c.self.inside.classes.names c.self.inside.order.order c.self.invariant _ (grind arith))
