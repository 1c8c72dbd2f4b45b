-- Interests: which connector owns which resource. They stand in the order of resources and, of one resource, in the
-- order in which they came to stand.
use Rattle.std.specs.Prelude.{Bool, IsTrue, not, ◌&&◌, ◌==◌, if◌then◌else◌, List, filter, map}
use Rattle.std.specs.List.{list_any}
use Rattle.cf_types.specs.declared.numbers.ConnId.{ConnId}
use Rattle.cf_types.specs.declared.resources.Resource.{Resource}
use Rattle.cf_types.specs.Resources.{same_resource, resource_up_to}
use Rattle.cf_lists.specs.Pairwise.{pairwise}
use Rattle.cf_lists.specs.Insertions.{insertion}
use Rattle.lock_table.specs.declared.holdings.Held.{Held}

abbrev pub is_on : Resource → Held → Bool
is_on r held = same_resource held.r r

-- a connector's interest in a resource
abbrev pub is_interest : Resource → ConnId → Held → Bool
is_interest r conn held = same_resource held.r r && (held.conn.0 == conn.0)

-- the owners of a resource, in standing order
abbrev pub owners_of : Resource → List Held → List Held
owners_of r owners = filter (is_on r) owners

abbrev pub has_interest : Resource → ConnId → List Held → Bool
has_interest r conn owners = list_any (is_interest r conn) owners

abbrev pub owners_without : Resource → ConnId → List Held → List Held
owners_without r conn owners = filter (λ held. not (is_interest r conn held)) owners

-- one interest more, as the last of its resource; it takes the place of the connector's own in it,
-- if there is one
abbrev pub owners_with : Held → List Held → List Held
owners_with held owners =
    insertion (λ other. resource_up_to other.r held.r) held (owners_without held.r held.conn owners)

-- a connector's interest in a resource takes another state
abbrev pub in_state : Resource → ConnId → Bool → Held → Held
in_state r conn excl held =
    record held { excl = if is_interest r conn held then excl else held.excl }

abbrev pub owners_in_state : Resource → ConnId → Bool → List Held → List Held
owners_in_state r conn excl owners = map (in_state r conn excl) owners

-- it is retained, or is so no more
abbrev pub in_retention : Resource → ConnId → Bool → Held → Held
in_retention r conn retained held =
    record held { retained = if is_interest r conn held then retained else held.retained }

abbrev pub owners_retained : Resource → ConnId → Bool → List Held → List Held
owners_retained r conn retained owners = map (in_retention r conn retained) owners

-- all interests of a connector are retained, or are so no more
abbrev pub in_retention_of : ConnId → Bool → Held → Held
in_retention_of conn retained held =
    record held { retained = if held.conn.0 == conn.0 then retained else held.retained }

abbrev pub owners_retained_of : ConnId → Bool → List Held → List Held
owners_retained_of conn retained owners = map (in_retention_of conn retained) owners

-- a connector's interests; those of them go that aren't retained
abbrev pub is_by : ConnId → Held → Bool
is_by conn held = held.conn.0 == conn.0

abbrev pub owners_without_active : ConnId → List Held → List Held
owners_without_active conn owners = filter (λ held. not (is_by conn held && not held.retained)) owners

-- the first isn't of a later resource
abbrev pub in_order : Held → Held → Bool
in_order held other = resource_up_to held.r other.r

-- they aren't of one connector in one resource
abbrev pub are_apart : Held → Held → Bool
are_apart held other = not (is_interest other.r other.conn held)

-- by resource, and of one connector one at most in a resource
pub record IsOwners (owners : List Held) : Type 0 where
  pub ordered : IsTrue (pairwise in_order owners)
  pub one_each : IsTrue (pairwise are_apart owners)
