-- The interests and waiters of a lock structure, with room for more.
use Rattle.std.specs.Prelude.{ℕ, ◌+◌, ◌≤◌, if◌then◌else◌, List, length, Option, Some, None}
use Rattle.cf_types.specs.declared.resources.Resource.{Resource}
use Rattle.lock_queue.specs.declared.waiters.Waiter.{Waiter}
use Rattle.lock_queue.specs.Waiters.{first_of, waiters_with}
use Rattle.lock_model.specs.declared.items.LockItem.{LockItem}
use Rattle.lock_model.specs.declared.items.LockItem.TheVariants.{Owner, Waits}
use Rattle.lock_model.specs.Interests.{Interest, interests_with, may_own}
use Rattle.lock_model.specs.Contents.{Content, records_waiting}
use Rattle.lock_model.specs.Grants.{held_by}
use Rattle.lock_core.specs.declared.locks.Locks.TheInside.{Inside}

-- the content; for how many more interests, record data and waiters there is room; and how many
-- record data there may be
pub record Stock : Type 0 where
  pub content : Content
  pub owner_room : ℕ
  pub record_room : ℕ
  pub waiter_room : ℕ
  pub limit : ℕ

abbrev pub stock : Inside → Stock
stock l =
    record {
      content = record { interests = l.interests.interests; waiters = l.queue.waiters };
      owner_room = l.interests.owner_room;
      record_room = l.interests.record_room;
      waiter_room = l.queue.room;
      limit = l.interests.limit;
    }

-- there is room for all that wait to be granted, and for so many more
pub record HasRoom (extra : ℕ) (stock : Stock) : Type 0 where
  pub owners : length stock.content.waiters + extra ≤ stock.owner_room
  pub records : records_waiting stock.content.waiters + extra ≤ stock.record_room

-- the first of those that wait for a resource, where it may own it
abbrev pub if_grantable : List Interest → Option Waiter → Option Waiter
if_grantable interests None = None
if_grantable interests (Some w) = if may_own (held_by w) interests then Some w else None

abbrev pub next_of : Resource → Content → Option Waiter
next_of r content = if_grantable content.interests (first_of r content.waiters)

-- an item more, in its place
abbrev pub content_placed : Content → LockItem → Content
content_placed content (Owner held rec) =
    record content {
      interests = interests_with (record { held = held; rec = rec }) content.interests;
    }
content_placed content (Waits w) = record content { waiters = waiters_with w content.waiters }
