use Rattle.cache_rows.proofs.Imports.{◌∙◌, subst, sym, arith, IsTotals}
use Rattle.cache_rows.proofs.TallyLaws.{tally_released}
use Rattle.cache_rows.proofs.CountLaws.{counts_released}
use Rattle.cache_rows.proofs.rows.Rows.release.Goals as goal

pub invariant_of-self : goal.invariant_of-self
invariant_of-self c =
    let rows = c.self.inside.directory.rows in
    record {
      totals = subst (λ l. IsTotals c.self.inside.totals l) (sym c.release.ensures.rows) (record {
        tally = tally_released c.self.inside.totals.tally c.args.conn rows c.self.invariant.totals.tally;
        counts = counts_released c.self.inside.totals.counts c.args.conn rows c.self.invariant.totals.counts;
      });
      limit = c.release.ensures.entries ∙ c.self.invariant.limit;
      all = omega (arith, c.release.ensures.free, c.self.invariant.all);
    }
