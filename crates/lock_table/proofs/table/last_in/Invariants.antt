use Rattle.lock_table.proofs.Imports.{◌≡◌, option_map, drop, joined, later_of, last_of, part_of}
use Rattle.lock_table.proofs.table.last_in.Given as goal

abbrev pub invariant-loop-entry : goal.invariant-loop-entry
invariant-loop-entry l = later_of part_of (option_map (λ held. held.now) l.last)
    (last_of part_of (joined (drop l.entry-index l.entries))) ≡ last_of part_of (joined l.entries)
