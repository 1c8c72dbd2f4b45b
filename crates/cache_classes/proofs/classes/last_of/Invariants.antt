use Rattle.cache_classes.proofs.Imports.{◌≡◌, ◌≤◌, length, drop, last_name, classes_in}
use Rattle.cache_classes.proofs.classes.last_of.Given as goal

abbrev pub invariant-loop-k : goal.invariant-loop-k
invariant-loop-k l = (l.last ≡ last_name (classes_in (drop l.k l.map.entries))) × (l.k ≤ length l.map.entries)

abbrev pub decreases-loop-k : goal.decreases-loop-k
decreases-loop-k l = l.k
