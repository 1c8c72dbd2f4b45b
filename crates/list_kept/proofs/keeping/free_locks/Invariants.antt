use Rattle.list_kept.proofs.Imports.{◌≡◌, None, replicate, take, drop}
use Rattle.list_kept.proofs.keeping.free_locks.Given as goal

abbrev pub invariant-loop-holder : goal.invariant-loop-holder
invariant-loop-holder l = (take l.holder-index l.holder-items ≡ replicate l.holder-index None)
    × (drop l.holder-index l.holder-items ≡ drop l.holder-index l.initial.holder-items)
