use Rattle.caller_items.proofs.OrderLaws.{AreSoFar}
use Rattle.caller_items.proofs.orders.in_order.Given as goal

abbrev pub invariant-loop-place : goal.invariant-loop-place
invariant-loop-place l = AreSoFar l.histories l.items l.table.items l.place
