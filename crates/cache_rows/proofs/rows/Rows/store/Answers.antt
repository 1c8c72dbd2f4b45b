use Rattle.cache_rows.proofs.Imports.{◌≤◌, Some, sym, subst, arith, elements_in, rows_replaced, elements-replaced, RowBatch, item_with}
use Rattle.cache_rows.proofs.rows.Rows.store.Goals as goal

pub write_row-requires-clause-fits : goal.write_row-requires-clause-fits
write_row-requires-clause-fits c =
    let row = item_with c.args.label.now (Some c.args.body.now) in
    let fits = subst (λ (b : RowBatch). elements_in (rows_replaced row b.rows) ≤ b.elements) (sym c.self.view_is)
    c.requires.fits in
    omega (arith, fits, elements-replaced row c.self.inside.directory.rows, c.self.invariant.all)
