use Rattle.cache_rows.proofs.Imports.{length-filter-le}
use Rattle.cache_rows.proofs.directory.unindex.Goals as goal

pub returns-clause-fewer : goal.returns-clause-fewer
returns-clause-fewer c = rw c.remove.ensures.order (length-filter-le _ c.args.order.now.order)
