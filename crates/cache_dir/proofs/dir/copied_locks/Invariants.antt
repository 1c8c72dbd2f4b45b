use Rattle.cache_dir.proofs.Imports.{◌≡◌, ◌++◌}
use Rattle.cache_dir.proofs.dir.copied_locks.Given as goal

abbrev pub invariant-loop-name : goal.invariant-loop-name
invariant-loop-name l = l.copy.entries ++ l.name-iterator ≡ l.from.entries
