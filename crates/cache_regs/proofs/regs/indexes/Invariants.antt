use Rattle.cache_regs.proofs.Imports.{◌≡◌, map, filter, Registration, is_below}
use Rattle.cache_regs.proofs.regs.indexes.Given as goal

abbrev pub invariant-loop-index : goal.invariant-loop-index
invariant-loop-index l =
    l.list.items ≡ map (λ (reg : Registration). (reg.index, reg.name)) (filter (is_below l.conn l.index) l.maps.regs)
