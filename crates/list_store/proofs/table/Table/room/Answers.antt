use Rattle.list_store.proofs.Imports.{◌∙◌, ap, ℕ, arith, List, refl, orders_in, is_few, list_all}
use Rattle.list_store.proofs.TiedLaws.{same_tied}
use Rattle.list_store.proofs.table.Table.room.Goals as goal

pub invariant_of-self : goal.invariant_of-self
invariant_of-self c = record {
  tied = same_tied c.self.inside.slab c.reserve_slab.new.slab _ _ _ _ c.reserve_slab.ensures.slots refl refl
      c.self.invariant.tied;
  few = c.self.invariant.few;
  headers = c.self.invariant.headers;
}

pub invariant_of-self-in_err-reserve_spots : goal.invariant_of-self-in_err-reserve_spots
invariant_of-self-in_err-reserve_spots c = record {
  tied = same_tied c.self.inside.slab c.reserve_slab.new.slab _ _ _ _ c.reserve_slab.ensures.slots refl
      c.reserve_spots.ensures.entries c.self.invariant.tied;
  few = c.self.invariant.few;
  headers = c.self.invariant.headers;
}

pub invariant_of-self-2 : goal.invariant_of-self-2
invariant_of-self-2 c = record {
  tied = same_tied c.self.inside.slab c.reserve_slab.new.slab (orders_in c.self.inside.orders.items)
      (orders_in c.reserve.new.lists.items) _ _ c.reserve_slab.ensures.slots c.reserve.ensures.lists
      c.reserve_spots.ensures.entries c.self.invariant.tied;
  few = ap (λ (l : List (List ℕ)). list_all is_few l) c.reserve.ensures.lists ∙ c.self.invariant.few;
  headers = omega (arith, c.reserve.ensures.len, c.self.invariant.headers);
}
