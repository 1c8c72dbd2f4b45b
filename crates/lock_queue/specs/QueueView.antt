-- Waiters with room for more.
use Rattle.std.specs.Prelude.{◌≡◌, ℕ, List, min, ◌-◌, length}
use Rattle.lock_queue.specs.declared.waiters.Waiter.{Waiter}
use Rattle.lock_queue.specs.declared.queue.Queue.TheInside.{Inside}
use Rattle.lock_queue.specs.Waiters.{recorded_in, IsQueue}
use Rattle.lock_queue.specs.Tables.{waiters_in, AreEntries}

-- the waiters, and for how many more there is room
pub record QueueView : Type 0 where
  pub waiters : List Waiter
  pub room : ℕ

abbrev pub queue_view : Inside → QueueView
queue_view q =
    record { waiters = waiters_in q.entries.items; room = min (length q.spare) (4294967295 - q.count) }

-- counted, so that their number is one of 32 bits
pub record IsKept (q : Inside) : Type 0 where
  pub entries : AreEntries q.entries.items
  pub queue : IsQueue (waiters_in q.entries.items)
  pub count : q.count ≡ length (waiters_in q.entries.items)
  pub recorded : q.recorded ≡ recorded_in (waiters_in q.entries.items)
