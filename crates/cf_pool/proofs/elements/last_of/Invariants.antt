use Rattle.cf_pool.proofs.Imports.{◌≡◌, ◌-◌, behind, IsWithin}
use Rattle.cf_pool.proofs.elements.last_of.Given as goal

abbrev pub invariant-loop-left : goal.invariant-loop-left
invariant-loop-left l = record {
  rest : behind l.next l.left l.at ≡ behind l.next (l.count - 1) l.fn.head;
  within : IsWithin l.next l.left l.at;
}

abbrev pub decreases-loop-left : goal.decreases-loop-left
decreases-loop-left l = l.left
