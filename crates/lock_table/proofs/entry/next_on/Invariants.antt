use Rattle.lock_table.proofs.Imports.{◌≡◌, owners_of}
use Rattle.lock_table.proofs.entry.next_on.Given as goal

abbrev pub invariant-loop-held : goal.invariant-loop-held
invariant-loop-held l = (goal.iterator-loop-held).can_next l.rest
    × (goal.iterator-loop-held).is_finite l.rest × (owners_of l.r l.rest ≡ owners_of l.r l.initial.rest)
