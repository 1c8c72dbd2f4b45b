use Rattle.cache_classes.proofs.Imports.{◌≡◌, ◌++◌, names_of, entries_in}
use Rattle.cache_classes.proofs.classes.unsorted_of.Given as goal

abbrev pub invariant-loop-name : goal.invariant-loop-name
invariant-loop-name l =
    l.list.items ++ names_of l.class (entries_in l.name-iterator) ≡ names_of l.class (entries_in l.map.entries)
