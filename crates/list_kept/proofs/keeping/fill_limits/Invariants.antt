use Rattle.list_kept.proofs.Imports.{◌≡◌, replicate, take, drop}
use Rattle.list_kept.proofs.keeping.fill_limits.Given as goal

abbrev pub invariant-loop-limit : goal.invariant-loop-limit
invariant-loop-limit l = (take l.limit-index l.limit-items ≡ replicate l.limit-index l.entries)
    × (drop l.limit-index l.limit-items ≡ drop l.limit-index l.initial.limit-items)
