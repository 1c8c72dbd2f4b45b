use Rattle.cache_reclaim.proofs.Imports.{arith}
use Rattle.cache_reclaim.proofs.SlotLaws.{free_tied, free_order}
use Rattle.cache_reclaim.proofs.order.Order.new.Goals as goal

pub invariant_of-result : goal.invariant_of-result
invariant_of-result c = grind (arith, free_tied)

pub returns-clause-order : goal.returns-clause-order
returns-clause-order c = free_order _ c.in_ok-slots.ensures.free
