use Rattle.cache_rows.proofs.Imports.{◌≡◌, ◌+◌, ◌<◌, ◌^◌, filter, sym, subst, arith, elements_in, is_reclaimable, RowBatch}
use Rattle.cache_rows.proofs.TallyLaws.{elements_taken, elements_same, reclaimable_fits}
use Rattle.cache_rows.proofs.rows.Rows.reclaimable_elements.Goals as goal

taken : (c : goal.After-unless_changed) → elements_in (filter (is_reclaimable c.args.name.now)
    c.self.inside.directory.rows) + c.unless_changed.result ≡ c.self.inside.totals.tally.reclaimable
taken c = elements_taken _ _ _ c.self.invariant.totals.tally c.in-Some.row _ _ c.row.ensures.apart
    c.in-Some.ensures.row c.class.ensures c.elements.ensures.elements _ c.unless_changed.ensures

pub overflow_cast-result : goal.overflow_cast-result
overflow_cast-result c =
    let few = subst (λ (b : RowBatch). elements_in b.rows < 2 ^ 32) (sym c.self.view_is) c.requires in
    omega (arith, few, reclaimable_fits _ c.self.inside.directory.rows c.self.invariant.totals.tally)

pub overflow_sub-result : goal.overflow_sub-result
overflow_sub-result c = omega (arith, taken c)

pub overflow_cast-result-in-None : goal.overflow_cast-result-in-None
overflow_cast-result-in-None c =
    let few = subst (λ (b : RowBatch). elements_in b.rows < 2 ^ 32) (sym c.self.view_is) c.requires in
    omega (arith, few, reclaimable_fits _ c.self.inside.directory.rows c.self.invariant.totals.tally)

pub returns-in-Some : goal.returns-in-Some
returns-in-Some c = rw (← c.self.view_is) (omega (arith, taken c))

pub returns-in-None : goal.returns-in-None
returns-in-None c =
    rw (← c.self.view_is) (elements_same _ c.args.name.now _ c.self.invariant.totals.tally (sym c.in-None.ensures.row))
