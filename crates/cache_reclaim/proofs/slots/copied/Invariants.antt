use Rattle.cache_reclaim.proofs.Imports.{◌≡◌, ◌++◌}
use Rattle.cache_reclaim.proofs.slots.copied.Given as goal

abbrev pub invariant-loop-slot : goal.invariant-loop-slot
invariant-loop-slot l = record {
  seam : l.slot-iterator.iter ++ l.copy.entries ≡ l.from.entries;
  cap : l.copy.cap ≡ l.from.cap;
}
