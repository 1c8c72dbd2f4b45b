use Rattle.list_kept.proofs.Imports.{◌≡◌, map, take, drop, holder_without}
use Rattle.list_kept.proofs.keeping.release_all.Given as goal

abbrev pub invariant-loop-holder : goal.invariant-loop-holder
invariant-loop-holder l = (take l.holder-index l.holder-items ≡ map (holder_without l.conn) (take l.holder-index
    l.initial.holder-items)) × (drop l.holder-index l.holder-items ≡ drop l.holder-index l.initial.holder-items)
