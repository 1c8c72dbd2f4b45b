use Rattle.cache_rows.proofs.Imports.{◌≡◌, ◌+◌, refl, sym, arith, filter, length, is_reclaimable}
use Rattle.cache_rows.proofs.TallyLaws.{count_taken, count_same}
use Rattle.cache_rows.proofs.rows.Rows.reclaimable_count.Goals as goal

pub overflow_sub-result : goal.overflow_sub-result
overflow_sub-result c =
    let taken : length (filter (is_reclaimable c.args.name.now) c.self.inside.directory.rows)
    + c.unless_changed.result ≡ c.self.inside.totals.tally.unchanged =
    count_taken _ _ _ c.self.invariant.totals.tally c.in-Some.row _ _ c.row.ensures.apart c.in-Some.ensures.row
    c.class.ensures refl _ c.unless_changed.ensures in
    omega arith

pub returns-in-Some : goal.returns-in-Some
returns-in-Some c =
    let taken : length (filter (is_reclaimable c.args.name.now) c.self.inside.directory.rows)
    + c.unless_changed.result ≡ c.self.inside.totals.tally.unchanged =
    count_taken _ _ _ c.self.invariant.totals.tally c.in-Some.row _ _ c.row.ensures.apart c.in-Some.ensures.row
    c.class.ensures refl _ c.unless_changed.ensures in
    rw (← c.self.view_is) (omega arith)

pub returns-in-None : goal.returns-in-None
returns-in-None c =
    rw (← c.self.view_is) (count_same _ c.args.name.now _ c.self.invariant.totals.tally (sym c.in-None.ensures.row))
