use Rattle.cache_rows.proofs.Imports.{arith, row_at}
use Rattle.cache_rows.proofs.IndexedLaws.{counted_more, count_fits}
use Rattle.cache_rows.proofs.directory.count_changed.Goals as goal

pub overflow_add-count : goal.overflow_add-count
overflow_add-count c =
    let fits = count_fits c.args.stg (row_at c.args.store.now.entries) c.args.classes.now.entries
    c.loop-k.k c.loop-k.count c.counts_at-count.result c.counts_at-count.ensures.count c.loop-k.invariant in
    omega (arith, fits, c.len-k-end.ensures.names, c.len-k-end.ensures.entries, c.requires)

pub loop-k-preserved : goal.loop-k-preserved
loop-k-preserved c = counted_more c.args.stg (row_at c.args.store.now.entries) c.args.classes.now.entries
    c.loop-k.k c.loop-k.count c.counts_at-count.result _ c.counts_at-count.ensures.count c.loop-k.invariant
