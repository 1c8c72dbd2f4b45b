-- What is counted of rows, all of it.
use Rattle.std.specs.Prelude.{List}
use Rattle.cache_model.specs.declared.items.CacheItem.{CacheItem}
use Rattle.cache_rows.specs.declared.tally.Totals.{Totals}
use Rattle.cache_rows.specs.Tallies.{IsTally}
use Rattle.cache_rows.specs.Counted.{AreCounts}

pub record IsTotals (totals : Totals) (rows : List CacheItem) : Type 0 where
  pub tally : IsTally totals.tally rows
  pub counts : AreCounts totals.counts rows
