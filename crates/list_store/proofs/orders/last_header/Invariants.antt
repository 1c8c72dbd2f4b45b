use Rattle.list_store.proofs.Imports.{◌≡◌, ◌≤◌, [], length, drop, all_records, orders_in}
use Rattle.list_store.proofs.orders.last_header.Given as goal

abbrev pub invariant-loop-left : goal.invariant-loop-left
invariant-loop-left l = (l.left ≤ length l.lists) × (all_records (drop l.left (orders_in l.lists)) ≡ [])

abbrev pub decreases-loop-left : goal.decreases-loop-left
decreases-loop-left l = l.left
