-- Waiters: which connector waits for which resource. They stand in the order of resources; of one
-- resource those that alter stand first.
use Rattle.std.specs.Prelude.{ℕ, ◌+◌, Bool, IsTrue, not, ◌&&◌, ◌||◌, ◌==◌, if◌then◌else◌, List, Option, Some, None, is_some, filter, find, length, sum_by}
use Rattle.std.specs.List.{list_any}
use Rattle.cf_types.specs.declared.numbers.ConnId.{ConnId}
use Rattle.cf_types.specs.declared.resources.Resource.{Resource}
use Rattle.cf_types.specs.Resources.{same_resource, resource_before, resource_up_to}
use Rattle.cf_lists.specs.Pairwise.{pairwise}
use Rattle.cf_lists.specs.Insertions.{insertion}
use Rattle.lock_queue.specs.declared.waiters.Waiter.{Waiter}

abbrev pub is_on : Resource → Waiter → Bool
is_on r waiter = same_resource waiter.r r

-- a connector that waits for a resource
abbrev pub is_waiter : Resource → ConnId → Waiter → Bool
is_waiter r conn waiter = same_resource waiter.r r && (waiter.conn.0 == conn.0)

-- those that wait for a resource, in their order; the first of them
abbrev pub waiters_of : Resource → List Waiter → List Waiter
waiters_of r waiters = filter (is_on r) waiters

abbrev pub first_of : Resource → List Waiter → Option Waiter
first_of r waiters = find (is_on r) waiters

abbrev pub waiter_of : Resource → ConnId → List Waiter → Option Waiter
waiter_of r conn waiters = find (is_waiter r conn) waiters

abbrev pub waits : Resource → ConnId → List Waiter → Bool
waits r conn waiters = list_any (is_waiter r conn) waiters

abbrev pub waiters_without : Resource → ConnId → List Waiter → List Waiter
waiters_without r conn waiters = filter (λ waiter. not (is_waiter r conn waiter)) waiters

-- a connector waits for nothing more
abbrev pub is_by : ConnId → Waiter → Bool
is_by conn waiter = waiter.conn.0 == conn.0

abbrev pub waiters_without_conn : ConnId → List Waiter → List Waiter
waiters_without_conn conn waiters = filter (λ waiter. not (is_by conn waiter)) waiters

-- how many record data waiters bring
abbrev pub recorded_by : Waiter → ℕ
recorded_by waiter = if is_some waiter.rec then 1 else 0

abbrev pub recorded_of : Option Waiter → ℕ
recorded_of None = 0
recorded_of (Some waiter) = recorded_by waiter

abbrev pub recorded_in : List Waiter → ℕ
recorded_in waiters = sum_by recorded_by waiters

-- those of its resource stand before a waiter, but where it alters and they don't
abbrev pub stands_before : Waiter → Waiter → Bool
stands_before other waiter =
    resource_up_to other.r waiter.r
    && (resource_before other.r waiter.r || other.alter || not waiter.alter)

-- one waiter more: where it alters, directly before the first of its resource that doesn't alter, and else as the
-- last of its resource. It takes the place of the connector's own, if it waits already
abbrev pub waiters_with : Waiter → List Waiter → List Waiter
waiters_with waiter waiters =
    insertion (λ other. stands_before other waiter) waiter
    (waiters_without waiter.r waiter.conn waiters)

-- its place among those that wait for its resource, from 1
abbrev pub place_of : Waiter → List Waiter → ℕ
place_of waiter waiters =
    length (filter (λ other. is_on waiter.r other && (other.alter || not waiter.alter))
    (waiters_without waiter.r waiter.conn waiters)) + 1

-- they aren't of one connector for one resource
abbrev pub are_apart : Waiter → Waiter → Bool
are_apart waiter other = not (is_waiter other.r other.conn waiter)

-- by resource, those of one resource that alter first; and of one connector one at most for a
-- resource
pub record IsQueue (waiters : List Waiter) : Type 0 where
  pub ordered : IsTrue (pairwise stands_before waiters)
  pub one_each : IsTrue (pairwise are_apart waiters)
