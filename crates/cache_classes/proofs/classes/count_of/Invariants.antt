use Rattle.cache_classes.proofs.Imports.{◌≡◌, ◌+◌, count_of, entries_in}
use Rattle.cache_classes.proofs.classes.count_of.Given as goal

abbrev pub invariant-loop-own : goal.invariant-loop-own
invariant-loop-own l =
    l.count + count_of l.class (entries_in l.own-iterator) ≡ count_of l.class (entries_in l.map.entries)
