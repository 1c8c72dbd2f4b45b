use Rattle.cache_reclaim.proofs.Imports.{◌≡◌, ◌++◌}
use Rattle.cache_reclaim.proofs.slots.copied_names.Given as goal

abbrev pub invariant-loop-name : goal.invariant-loop-name
invariant-loop-name l = l.copy.entries ++ l.name-iterator ≡ l.from.entries
