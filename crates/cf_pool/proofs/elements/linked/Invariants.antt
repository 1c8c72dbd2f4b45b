use Rattle.cf_pool.proofs.Imports.{◌≡◌, ℕ, ◌+◌, ◌<◌, length, get_or}
use Rattle.cf_pool.proofs.elements.linked.Given as goal

abbrev pub invariant-loop-at : goal.invariant-loop-at
invariant-loop-at l = record {
  count : length l.next.items ≡ l.at;
  links : (k : ℕ) → k < l.at → get_or l.next.items k 0 ≡ k + 1;
}
