-- The order of the items: the resources of the interests, and of the waiters.
use Rattle.std.specs.Prelude.{List, map}
use Rattle.cf_types.specs.declared.resources.Resource.{Resource}
use Rattle.lock_model.specs.Contents.{Content}
use Rattle.lock_core.specs.declared.locks.ItemOrder.TheInside.{Inside}

pub record OrderView : Type 0 where
  pub owned : List Resource
  pub awaited : List Resource

abbrev pub order_view : Inside → OrderView
order_view order = record { owned = order.owned.items; awaited = order.awaited.items }

abbrev pub order_of : Content → OrderView
order_of content =
    record {
      owned = map (λ interest. interest.held.r) content.interests;
      awaited = map (λ w. w.r) content.waiters;
    }
