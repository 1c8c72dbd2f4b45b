-- The waiters that lie in table entries.
use Rattle.std.specs.Prelude.{ℕ, Bool, true, false, map, not, ◌&&◌, List}
use Rattle.cf_types.specs.declared.resources.Resource.{Resource}
use Rattle.cf_types.specs.Resources.{Part, same_resource}
use Rattle.cf_lists.specs.Tables.{seen_in, IsTable, resource_by}
use Rattle.lock_queue.specs.declared.waiters.Waiter.{Waiter}

abbrev pub part_of : Waiter → Part
part_of waiter = (waiter.r, waiter.conn)

-- by resource and then in their order
abbrev pub waiters_in : List (List Waiter) → List Waiter
waiters_in entries = seen_in part_of entries

-- in its entry a waiter stands behind all, but where it alters, before those of its resource that don't
abbrev pub is_ahead : Waiter → Waiter → Bool
is_ahead other waiter = not ((waiter.alter && not other.alter) && same_resource other.r waiter.r)

abbrev pub resource_of : Waiter → Resource
resource_of waiter = waiter.r

-- each waiter lies in its entry, and of a connector one at most for a resource
abbrev pub AreEntries : List (List Waiter) → Type 0
AreEntries entries = IsTable part_of entries (map (resource_by part_of) (waiters_in entries))

abbrev pub one_where : Bool → ℕ
one_where true = 1
one_where false = 0
