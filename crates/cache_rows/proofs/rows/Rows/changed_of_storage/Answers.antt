use Rattle.cache_rows.proofs.CountLaws.{changed_told}
use Rattle.cache_rows.proofs.rows.Rows.changed_of_storage.Goals as goal

pub returns-in-Some : goal.returns-in-Some
returns-in-Some c = rw (← c.self.view_is) (changed_told _ _ c.args.stg _ c.self.invariant.totals.counts
    c.in-Some.ensures.within c.in-Some.ensures.count)
