-- For which resources the grant rule has to run when a connector departs.
use Rattle.std.specs.Prelude.{ℕ, Bool, false, if◌then◌else◌, List, [], ◌∷◌, length, is_some, filter, sum_by}
use Rattle.cf_types.specs.declared.numbers.ConnId.{ConnId}
use Rattle.cf_types.specs.declared.resources.Resource.{Resource}
use Rattle.cf_types.specs.Resources.{same_resource}
use Rattle.lock_queue.specs.declared.waiters.Waiter.{Waiter}
use Rattle.lock_queue.specs.Waiters.{first_of, waiters_of}
use Rattle.lock_model.specs.Contents.{Content}
use Rattle.lock_model.specs.Departures.{resources_of}

-- whether anybody waits for a resource
abbrev pub is_awaited : List Waiter → Resource → Bool
is_awaited waiters r = is_some (first_of r waiters)

-- the resources that a connector owns or waits for and that anybody waits for, each once, in their order: for others
-- the grant rule does nothing
abbrev pub awaited_of : ConnId → Content → List Resource
awaited_of conn content = filter (is_awaited content.waiters) (resources_of conn content)

-- how many wait for resources
abbrev pub waiting_for : List Waiter → List Resource → ℕ
waiting_for waiters rs = sum_by (λ r. length (waiters_of r waiters)) rs

-- sorted resources, each once: the last of those that are the same
abbrev pub begins_with : Resource → List Resource → Bool
begins_with r [] = false
begins_with r (other ∷ rs) = same_resource r other

unfoldable pub each_once : List Resource → List Resource
each_once [] = []
each_once (r ∷ rs) = if begins_with r rs then each_once rs else r ∷ each_once rs
