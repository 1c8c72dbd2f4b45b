use Rattle.list_kept.proofs.Imports.{◌≤◌, ◌-◌, length, prefix_len, records_of, comes_behind}
use Rattle.list_kept.proofs.placing.place_of.Given as goal

abbrev pub invariant-loop-low : goal.invariant-loop-low
invariant-loop-low l = (l.low ≤ prefix_len (comes_behind l.head l.key) (records_of l.store.lists l.header))
    × (prefix_len (comes_behind l.head l.key) (records_of l.store.lists l.header) ≤ l.high)
    × (l.high ≤ length (records_of l.store.lists l.header))

abbrev pub decreases-loop-low : goal.decreases-loop-low
decreases-loop-low l = l.high - l.low
