use Rattle.cache_rows.proofs.Imports.{◌∙◌}
use Rattle.cache_rows.proofs.IndexedLaws.{changed_storage}
use Rattle.cache_rows.proofs.directory.Directory.changed_of_storage.Goals as goal

pub returns : goal.returns
returns c = rw (← c.self.view_is) (c.count_changed.ensures
    ∙ changed_storage _ _ c.self.inside.classes.names c.self.inside.order.order c.self.invariant c.args.stg)
