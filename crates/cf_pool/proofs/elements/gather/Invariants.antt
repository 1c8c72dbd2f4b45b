use Rattle.cf_pool.proofs.Imports.{◌≡◌, ◌-◌, ◌≤◌, ◌++◌, take, length, IsWithin, walked}
use Rattle.cf_pool.proofs.elements.gather.Given as goal

abbrev pub invariant-loop-left : goal.invariant-loop-left
invariant-loop-left l = record {
  few : length l.bytes.items ≤ l.len;
  bytes : l.bytes.items ++ take (l.len - length l.bytes.items) (walked l.cells l.next l.left l.at)
      ≡ take l.len (walked l.cells l.next l.count l.head);
  within : IsWithin l.next l.left l.at;
}

abbrev pub decreases-loop-left : goal.decreases-loop-left
decreases-loop-left l = l.left
