use Rattle.cache_core.proofs.Imports.{◌≡◌, ◌++◌, ◌-◌, range_with_len, class_counts}
use Rattle.cache_core.proofs.commands.co_stats.class_counts.Given as goal

abbrev pub invariant-loop-class : goal.invariant-loop-class
invariant-loop-class l = l.counts.items ++ class_counts l.rows.rows
    (range_with_len l.class (17 - l.class)) ≡ class_counts l.rows.rows (range_with_len 1 16)
