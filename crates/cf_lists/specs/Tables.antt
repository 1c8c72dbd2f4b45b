-- Table entries of elements that are each a connector's part in a resource.
use Rattle.std.specs.Prelude.{◌≡◌, ℕ, ◌%◌, ◌-◌, ◌<◌, nat_lt, Bool, not, IsTrue, if◌then◌else◌, List, [], ◌∷◌, Option, Some, None, filter, map, length, slice_get}
use Rattle.cf_types.specs.declared.resources.Resource.{Resource}
use Rattle.cf_types.specs.Resources.{resource_before, same_resource, same_part, Part}
use Rattle.cf_lists.specs.Pairwise.{pairwise}
use Rattle.cf_lists.specs.Bins.{arranged, joined, AreAtHome}

abbrev pub resource_by : {X : Type 0} → (X → Part) → X → Resource
resource_by part_of x = (part_of x).0

abbrev pub is_on : {X : Type 0} → (X → Part) → Resource → X → Bool
is_on part_of r x = same_resource (part_of x).0 r

-- this connector's part in this resource
abbrev pub is_part : {X : Type 0} → (X → Part) → Part → X → Bool
is_part part_of p x = same_part (part_of x) p

abbrev pub are_apart : {X : Type 0} → (X → Part) → X → X → Bool
are_apart part_of x y = not (same_part (part_of x) (part_of y))

-- the entry that a resource's hash value picks
abbrev pub slot_in : ℕ → Resource → ℕ
slot_in n r = r.hash % n

-- the elements of all entries, by resource and then in the order of their entry
abbrev pub seen_in : {X : Type 0} → (X → Part) → List (List X) → List X
seen_in part_of entries = arranged (resource_by part_of) resource_before (joined entries)

-- the element at a place, where it is of this resource: as many stand before it as are of resources before its own, and
-- some of its own
abbrev pub placed_on : {X : Type 0} → (X → Part) → Resource → ℕ → List X → Option X
placed_on part_of r k xs =
    let before = length (filter (λ x. resource_before (part_of x).0 r) xs) in
    if nat_lt k before then None else slice_get (filter (is_on part_of r) xs) (k - before)

-- of two elements the second, unless it is of a resource before the first's
abbrev pub later_of : {X : Type 0} → (X → Part) → Option X → Option X → Option X
later_of part_of None y = y
later_of part_of (Some x) None = Some x
later_of part_of (Some x) (Some y) =
    if resource_before (part_of y).0 (part_of x).0 then Some x else Some y

abbrev pub last_of : {X : Type 0} → (X → Part) → List X → Option X
last_of part_of [] = None
last_of part_of (x ∷ xs) = later_of part_of (Some x) (last_of part_of xs)

-- each element lies in its entry, one of a connector for a resource; and the resources of all elements are known in
-- their order
pub record IsTable {X : Type 0} (part_of : X → Part) (entries : List (List X)) (order : List Resource) : Type 0 where
  pub some : 0 < length entries
  pub home : AreAtHome (resource_by part_of) (slot_in (length entries)) entries
  pub one_each : IsTrue (pairwise (are_apart part_of) (seen_in part_of entries))
  pub listed : order ≡ map (resource_by part_of) (seen_in part_of entries)
