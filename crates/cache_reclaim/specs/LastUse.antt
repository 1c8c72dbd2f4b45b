-- Names with their storage classes, from least to most recently used.
use Rattle.std.specs.Prelude.{ℕ, Bool, true, false, not, ◌==◌, List, [], ◌∷◌, ◌++◌, filter, map, Option, option_map, slice_get}
use Rattle.std.specs.List.{list_any}
use Rattle.cf_types.specs.declared.names.Name16.{Name16}
use Rattle.cf_types.specs.Name.{same_name}
use Rattle.cache_reclaim.specs.declared.used.Used.{Used}

abbrev pub is_named : Name16 → Used → Bool
is_named name used = same_name used.name name

abbrev pub has_name : Name16 → List Used → Bool
has_name name order = list_any (is_named name) order

abbrev pub is_of_storage : ℕ → Used → Bool
is_of_storage stg used = used.stg == stg

-- of a storage class, or of another one
abbrev pub is_in_part : ℕ → Bool → Used → Bool
is_in_part stg true used = is_of_storage stg used
is_in_part stg false used = not (is_of_storage stg used)

abbrev pub order_without : Name16 → List Used → List Used
order_without name order = filter (λ used. not (is_named name used)) order

-- the name becomes the most recently used
abbrev pub order_touched : Name16 → ℕ → List Used → List Used
order_touched name stg order = order_without name order ++ record { name = name; stg = stg } ∷ []

-- in which order they are reclaimed for a storage class: first those of the class, then the others
abbrev pub reclaimed_for : ℕ → List Used → List Used
reclaimed_for stg order = filter (is_in_part stg true) order ++ filter (is_in_part stg false) order

-- the name at this place there (from 0), if there are so many
abbrev pub victim : ℕ → ℕ → List Used → Option Name16
victim stg k order = option_map (λ used. used.name) (slice_get (reclaimed_for stg order) k)

abbrev pub names_in : List Used → List Name16
names_in order = map (λ used. used.name) order
