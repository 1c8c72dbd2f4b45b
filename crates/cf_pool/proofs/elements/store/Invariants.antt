use Rattle.cf_pool.proofs.Imports.{◌≡◌, behind, IsWithin, stored}
use Rattle.cf_pool.proofs.elements.store.Given as goal

abbrev pub invariant-loop-left : goal.invariant-loop-left
invariant-loop-left l = record {
  cells : stored l.next l.left l.at l.rest l.cells ≡ stored l.next l.count l.head l.bytes l.initial.cells;
  behind : behind l.next l.left l.at ≡ behind l.next l.count l.head;
  within : IsWithin l.next l.left l.at;
}

abbrev pub decreases-loop-left : goal.decreases-loop-left
decreases-loop-left l = l.left
