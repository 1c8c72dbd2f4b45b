use Rattle.cache_rows.proofs.Imports.{◌≡◌, true, sym, subst, ◌∙◌, false≢true, has_row, Listed}
use Rattle.cache_rows.proofs.IndexedLaws.{missing}
use Rattle.cache_rows.proofs.directory.Directory.copy_of.Goals as goal

pub unreachable-requires : goal.unreachable-requires
unreachable-requires c = false≢true (sym (missing
    _ _ c.self.inside.classes.names c.self.inside.order.order c.self.invariant c.args.name.now c.in-None.ensures)
    ∙ subst (λ (l : Listed). has_row c.args.name.now l.rows ≡ true) (sym c.self.view_is) c.requires)
