-- Record data: what a connector left with its interest in a resource. They stand in the order of
-- resources and, of one resource, of connectors.
use Rattle.std.specs.Prelude.{ℕ, Bool, IsTrue, not, ◌&&◌, ◌||◌, ◌==◌, nat_lt, List, [], ◌∷◌, Option, None, Some, false, if◌then◌else◌, filter, find, map, option_map}
use Rattle.std.specs.List.{list_any}
use Rattle.cf_types.specs.declared.numbers.ConnId.{ConnId}
use Rattle.cf_types.specs.declared.resources.Resource.{Resource}
use Rattle.cf_types.specs.Resources.{Part, same_resource, resource_before}
use Rattle.cf_lists.specs.Pairwise.{pairwise}
use Rattle.cf_lists.specs.Insertions.{insertion}
use Rattle.lock_record.specs.declared.recorded.Record.{Record}

-- a connector's record data for a resource
abbrev pub is_record : Resource → ConnId → Record → Bool
is_record r conn recorded = same_resource recorded.r r && (recorded.conn.0 == conn.0)

abbrev pub is_of : ConnId → Record → Bool
is_of conn recorded = recorded.conn.0 == conn.0

-- the data are a list of bytes
abbrev pub record_of : Resource → ConnId → List Record → Option (List ℕ)
record_of r conn records = option_map (λ recorded. recorded.rec) (find (is_record r conn) records)

abbrev pub has_record : Resource → ConnId → List Record → Bool
has_record r conn records = list_any (is_record r conn) records

abbrev pub records_without : Resource → ConnId → List Record → List Record
records_without r conn records = filter (λ recorded. not (is_record r conn recorded)) records

-- the resource and the connector
abbrev pub part_of : Record → Part
part_of recorded = (recorded.r, recorded.conn)

-- a part, if there is one, is a connector's
abbrev pub is_part_by : ConnId → Option Part → Bool
is_part_by conn None = false
is_part_by conn (Some p) = p.1.0 == conn.0

-- its resource, where it is
abbrev pub resource_at : ConnId → Option Part → List Resource
resource_at conn None = []
resource_at conn (Some p) = if p.1.0 == conn.0 then p.0 ∷ [] else []

-- the resource
abbrev pub resource_of : Record → Resource
resource_of recorded = recorded.r

-- the resources of those that are a connector's
abbrev pub resources_by : ConnId → List Record → List Resource
resources_by conn records = map resource_of (filter (is_of conn) records)

-- by resource, and of one resource by connector
abbrev pub part_before : Part → Part → Bool
part_before a b = resource_before a.0 b.0 || (same_resource a.0 b.0 && nat_lt a.1.0 b.1.0)

-- the first stands before the second
abbrev pub stands_before : Record → Record → Bool
stands_before recorded other = part_before (part_of recorded) (part_of other)

-- record data in their place; they take the place of the connector's own for the resource, if
-- there are any
abbrev pub records_with : Record → List Record → List Record
records_with recorded records =
    insertion (λ other. stands_before other recorded) recorded
    (records_without recorded.r recorded.conn records)

-- those of a connector
abbrev pub records_of : ConnId → List Record → List Record
records_of conn records = filter (is_of conn) records

-- a connector's record data for whatever resource go
abbrev pub records_without_conn : ConnId → List Record → List Record
records_without_conn conn records = filter (λ recorded. not (is_of conn recorded)) records

-- the first doesn't stand behind the second
abbrev pub in_order : Record → Record → Bool
in_order recorded other = not (stands_before other recorded)

-- they aren't of one connector for one resource
abbrev pub are_apart : Record → Record → Bool
are_apart recorded other = not (is_record other.r other.conn recorded)

-- in order, and of one connector one at most for a resource
pub record AreRecords (records : List Record) : Type 0 where
  pub ordered : IsTrue (pairwise in_order records)
  pub one_each : IsTrue (pairwise are_apart records)
