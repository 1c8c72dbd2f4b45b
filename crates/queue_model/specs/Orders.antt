-- The order of a connector's queue.
use Rattle.std.specs.Prelude.{◌≡◌, Bool, IsTrue, List, ◌++◌, filter}
use Rattle.std.specs.List.{list_all}
use Rattle.cf_types.specs.declared.numbers.ConnId.{ConnId}
use Rattle.queue_model.specs.declared.subs.Sub.{Sub}
use Rattle.queue_model.specs.Queues.{Queued, is_by, is_other}

abbrev pub queue_of : ConnId → Queued → List Sub
queue_of conn queued = filter (is_by conn) queued.events

-- some of a queue stay, in their order, and others, which weren't in it, come behind them
pub record IsLater (before after : List Sub) : Type 0 where
  pub stays : Sub → Bool
  pub new : List Sub
  pub fresh : IsTrue (list_all (λ x. list_all (is_other x) before) new)
  pub is : after ≡ filter stays before ++ new
