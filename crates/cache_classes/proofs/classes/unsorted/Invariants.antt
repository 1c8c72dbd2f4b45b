use Rattle.cache_classes.proofs.Imports.{◌≡◌, ◌++◌, names_in, entries_in}
use Rattle.cache_classes.proofs.classes.unsorted.Given as goal

abbrev pub invariant-loop-name : goal.invariant-loop-name
invariant-loop-name l = l.list.items ++ names_in (entries_in l.name-iterator) ≡ names_in (entries_in l.map.entries)
