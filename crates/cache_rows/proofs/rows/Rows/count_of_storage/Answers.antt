use Rattle.cache_rows.proofs.CountLaws.{storage_told}
use Rattle.cache_rows.proofs.rows.Rows.count_of_storage.Goals as goal

pub returns-in-Some : goal.returns-in-Some
returns-in-Some c = rw (← c.self.view_is) (storage_told _ _ c.args.stg _ c.self.invariant.totals.counts
    c.in-Some.ensures.within c.in-Some.ensures.count)
