use Rattle.list_store.proofs.Imports.{◌≡◌, [], replicate, orders_in}
use Rattle.list_store.proofs.orders.no_keys.Given as goal

abbrev pub invariant-loop : goal.invariant-loop
invariant-loop l = orders_in l.lists.items ≡ replicate l.counter []
