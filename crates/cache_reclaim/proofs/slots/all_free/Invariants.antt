use Rattle.cache_reclaim.proofs.Imports.{◌≡◌, ℕ, ◌≤◌, None, length, nat_eq, lookup, IsFree}
use Rattle.cache_reclaim.proofs.slots.all_free.Given as goal

abbrev pub invariant-loop-slot : goal.invariant-loop-slot
invariant-loop-slot l = record {
  free : IsFree l.slots.entries;
  full : length l.slots.entries ≡ l.slot;
  cap : l.slots.cap ≡ l.count;
  missing : (q : ℕ) → l.slot ≤ q → lookup (nat_eq q) l.slots.entries ≡ None;
}
