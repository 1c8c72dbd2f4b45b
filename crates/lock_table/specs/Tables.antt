-- The interests that lie in table entries.
use Rattle.std.specs.Prelude.{ℕ, Bool, true, false, List, map}
use Rattle.cf_types.specs.declared.resources.Resource.{Resource}
use Rattle.cf_types.specs.Resources.{Part}
use Rattle.cf_lists.specs.Tables.{seen_in, IsTable, resource_by}
use Rattle.lock_table.specs.declared.holdings.Held.{Held}

abbrev pub part_of : Held → Part
part_of held = (held.r, held.conn)

abbrev pub resource_of : Held → Resource
resource_of held = held.r

-- by resource and then in standing order
abbrev pub owners_in : List (List Held) → List Held
owners_in entries = seen_in part_of entries

-- each interest lies in its entry, and of a connector one at most in a resource
abbrev pub AreEntries : List (List Held) → Type 0
AreEntries entries = IsTable part_of entries (map (resource_by part_of) (owners_in entries))

abbrev pub one_where : Bool → ℕ
one_where true = 1
one_where false = 0
