use Rattle.cache_rows.proofs.Imports.{◌∙◌, arith}
use Rattle.cache_rows.proofs.CountLaws.{totals_retaken}
use Rattle.cache_rows.proofs.rows.Rows.touch.Goals as goal

pub invariant_of-self : goal.invariant_of-self
invariant_of-self c = record {
  totals = totals_retaken _ c.args.name.now _ _ c.touch.ensures.apart c.touch.ensures.rows c.self.invariant.totals;
  limit = c.touch.ensures.entries ∙ c.self.invariant.limit;
  all = omega (arith, c.touch.ensures.free, c.self.invariant.all);
}
