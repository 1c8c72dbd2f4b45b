use Rattle.list_store.proofs.Imports.{◌≡◌, true, take, list_all, vec_len, orders_in, has_place}
use Rattle.list_store.proofs.orders.reserve.Given as goal

abbrev pub invariant-loop-header : goal.invariant-loop-header
invariant-loop-header l = (orders_in l.lists.items ≡ orders_in l.initial.lists.items)
    × (vec_len l.lists ≡ vec_len l.initial.lists) × (list_all has_place (take l.header l.lists.items) ≡ true)
