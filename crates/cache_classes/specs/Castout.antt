-- Changed names with their castout classes, in the order of names.
use Rattle.std.specs.Prelude.{ℕ, ◌-◌, Bool, not, ◌==◌, if◌then◌else◌, List, filter, map, length, Option, Some, None, option_map, slice_get}
use Rattle.cf_types.specs.declared.names.Name16.{Name16}
use Rattle.cf_types.specs.Name.{same_name, name_before}
use Rattle.cf_lists.specs.Insertions.{insertion}
use Rattle.cache_classes.specs.declared.changed.Changed.{Changed}

abbrev pub is_named : Name16 → Changed → Bool
is_named name changed = same_name changed.name name

abbrev pub is_of_class : ℕ → Changed → Bool
is_of_class class changed = changed.class == class

abbrev pub stands_before : Changed → Changed → Bool
stands_before changed other = name_before changed.name other.name

abbrev pub name_of : Changed → Name16
name_of changed = changed.name

abbrev pub names_without : Name16 → List Changed → List Changed
names_without name names = filter (λ changed. not (is_named name changed)) names

-- one more, in the order of names
abbrev pub names_with : Changed → List Changed → List Changed
names_with new names = insertion (λ changed. stands_before changed new) new names

-- a name takes a castout class, or has none any more
abbrev pub names_set : Name16 → Option ℕ → List Changed → List Changed
names_set name None names = names_without name names
names_set name (Some class) names = names_with (record { name = name; class = class }) (names_without name names)

-- for how many names that takes room
abbrev pub room_taken : Option ℕ → ℕ
room_taken None = 0
room_taken (Some class) = 1

abbrev pub names_in : List Changed → List Name16
names_in names = map (λ changed. changed.name) names

-- the names of a class, and how many they are
abbrev pub names_of : ℕ → List Changed → List Name16
names_of class names = map (λ changed. changed.name) (filter (is_of_class class) names)

abbrev pub count_of : ℕ → List Changed → ℕ
count_of class names = length (filter (is_of_class class) names)

-- the last of them
abbrev pub last_name : List Changed → Option Name16
last_name names = option_map name_of (slice_get names (length names - 1))

-- the later of two names, or the one that there is
abbrev pub later : Option Name16 → Option Name16 → Option Name16
later None name = name
later (Some last) None = Some last
later (Some last) (Some name) = if name_before last name then Some name else Some last
