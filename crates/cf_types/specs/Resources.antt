-- Resources as keys: when two are the same, and which comes first.
use Rattle.std.specs.Prelude.{Bool, not, ◌&&◌, ◌==◌}
use Rattle.std.specs.declared.cmp.Ordering.{Ordering}
use Rattle.std.specs.Ordering.{nat_cmp, is_lt, ordering_then}
use Rattle.std.specs.Cmp.Lexicographic.{slice_cmp}
use Rattle.cf_types.specs.declared.numbers.ConnId.{ConnId}
use Rattle.cf_types.specs.declared.resources.Resource.{Resource}
use Rattle.cf_types.specs.Name.{same_name}

-- the same name and the same hash value
abbrev pub same_resource : Resource → Resource → Bool
same_resource a b = same_name a.name b.name && (a.hash == b.hash)

-- resources stand in the order of their names, and of their hash values where the names are the same
abbrev pub resource_cmp : Resource → Resource → Ordering
resource_cmp a b = ordering_then (slice_cmp nat_cmp a.name.0 b.name.0) (nat_cmp a.hash b.hash)

abbrev pub resource_before : Resource → Resource → Bool
resource_before a b = is_lt (resource_cmp a b)

-- the first isn't behind the second
abbrev pub resource_up_to : Resource → Resource → Bool
resource_up_to a b = not (resource_before b a)

-- a connector's part in a resource
abbrev pub Part : Type 0
Part = Resource × ConnId

abbrev pub same_part : Part → Part → Bool
same_part a b = same_resource a.0 b.0 && (a.1.0 == b.1.0)
