use Rattle.cache_rows.proofs.Imports.{◌≡◌, ◌+◌, refl, arith, elements_in, rows_without}
use Rattle.cache_rows.proofs.TallyLaws.{others_taken, others_same}
use Rattle.cache_rows.proofs.rows.Rows.elements_of_others.Goals as goal

taken : (c : goal.After-elements) → elements_in
    (rows_without c.args.name.now c.self.inside.directory.rows) + c.elements.result ≡ c.self.inside.totals.tally.elements
taken c = others_taken _ _ _ c.self.invariant.totals.tally
    c.in-Some.row _ _ c.row.ensures.apart c.in-Some.ensures.row refl c.elements.ensures.elements

pub overflow_sub-result : goal.overflow_sub-result
overflow_sub-result c = omega (arith, taken c)

pub returns-in-Some : goal.returns-in-Some
returns-in-Some c = rw (← c.self.view_is) (omega (arith, taken c))

pub returns-in-None : goal.returns-in-None
returns-in-None c =
    rw (← c.self.view_is) (others_same _ c.args.name.now _ c.self.invariant.totals.tally c.in-None.ensures.row)
