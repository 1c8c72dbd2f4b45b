use Rattle.cache_reclaim.proofs.Imports.{◌≡◌, ◌++◌, reverse, names_in, used_in}
use Rattle.cache_reclaim.proofs.slots.push_names.Given as goal

abbrev pub invariant-loop-used : goal.invariant-loop-used
invariant-loop-used l = l.list.items ++ names_in
    (used_in (reverse l.used-iterator.iter)) ≡ l.fn.list.items ++ names_in (used_in (reverse l.slots.entries))
