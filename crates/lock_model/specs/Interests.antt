-- Interests with their record data, and who may own a resource together. They stand by resource,
-- and within one resource in the order in which they were granted.
use Rattle.std.specs.Prelude.{ℕ, Bool, IsTrue, not, ◌&&◌, ◌||◌, ◌==◌, if◌then◌else◌, List, Option, option_map, filter, find, map}
use Rattle.std.specs.List.{list_any, list_all}
use Rattle.cf_types.specs.declared.numbers.ConnId.{ConnId}
use Rattle.cf_types.specs.declared.resources.Resource.{Resource}
use Rattle.cf_types.specs.Resources.{same_resource, resource_up_to}
use Rattle.cf_lists.specs.Pairwise.{pairwise}
use Rattle.cf_lists.specs.Insertions.{insertion}
use Rattle.lock_table.specs.declared.holdings.Held.{Held}
use Rattle.lock_table.specs.Holdings.{is_on, is_interest, in_order, are_apart}

pub record Interest : Type 0 where
  pub held : Held
  pub rec : Option (List ℕ)

-- a connector's interest in a resource; its interest in any
abbrev pub is_of : Resource → ConnId → Interest → Bool
is_of r conn interest = is_interest r conn interest.held

abbrev pub is_by : ConnId → Interest → Bool
is_by conn interest = interest.held.conn.0 == conn.0

abbrev pub interest_of : Resource → ConnId → List Interest → Option Interest
interest_of r conn interests = find (is_of r conn) interests

abbrev pub has_interest : Resource → ConnId → List Interest → Bool
has_interest r conn interests = list_any (is_of r conn) interests

abbrev pub interests_without : Resource → ConnId → List Interest → List Interest
interests_without r conn interests = filter (λ interest. not (is_of r conn interest)) interests

-- one more, as the last of its resource; it takes the place of the connector's own in it
abbrev pub interests_with : Interest → List Interest → List Interest
interests_with interest interests =
    let held = interest.held in
    insertion (λ other. resource_up_to other.held.r held.r) interest
    (interests_without held.r held.conn interests)

-- a connector's interest in a resource is changed, in its place
abbrev pub interests_changed : Resource → ConnId → (Interest → Interest) → List Interest
    → List Interest
interests_changed r conn change interests =
    map (λ interest. if is_of r conn interest then change interest else interest) interests

-- the manager of a resource: its first owner that isn't retained
abbrev pub is_managing : Resource → Interest → Bool
is_managing r interest = is_on r interest.held && not interest.held.retained

abbrev pub manager_of : Resource → List Interest → Option ConnId
manager_of r interests =
    option_map (λ interest. interest.held.conn) (find (is_managing r) interests)

-- ---- who may own a resource together

-- both share it, or they are one connector
abbrev pub are_compatible : Held → Held → Bool
are_compatible held other = not held.excl && not other.excl || (held.conn.0 == other.conn.0)

-- compatible if it is one resource
abbrev pub may_coexist : Held → Held → Bool
may_coexist held other = not (same_resource held.r other.r) || are_compatible held other

-- compatible with all other owners of the resource
abbrev pub may_own : Held → List Interest → Bool
may_own held interests = list_all (λ interest. may_coexist held interest.held) interests

-- ---- what all interests keep

abbrev pub stands_up_to : Interest → Interest → Bool
stands_up_to interest other = in_order interest.held other.held

abbrev pub parts_apart : Interest → Interest → Bool
parts_apart interest other = are_apart interest.held other.held

abbrev pub owners_agree : Interest → Interest → Bool
owners_agree interest other = may_coexist interest.held other.held

-- by resource; of one connector one at most in a resource; any two of one resource are compatible
pub record AreInterests (interests : List Interest) : Type 0 where
  pub ordered : IsTrue (pairwise stands_up_to interests)
  pub one_each : IsTrue (pairwise parts_apart interests)
  pub compatible : IsTrue (pairwise owners_agree interests)
