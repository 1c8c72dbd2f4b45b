use Rattle.lock_table.proofs.Imports.{◌≡◌, option_map, later_of, last_of, part_of}
use Rattle.lock_table.proofs.entry.last_among.Given as goal

abbrev pub invariant-loop-held : goal.invariant-loop-held
invariant-loop-held l = later_of part_of (option_map (λ held. held.now) l.last) (last_of part_of
    l.held-iterator) ≡ later_of part_of (option_map (λ held. held.now) l.fn.best) (last_of part_of l.fn.owners)
