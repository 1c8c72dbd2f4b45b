-- Slots in the order of last use, each with a name or free.
use Rattle.std.specs.Prelude.{◌≡◌, ℕ, Bool, nat_eq, List, [], ◌∷◌, length, Option, Some, None, cond, if◌then◌else◌}
use Rattle.std.specs.List.{IsDistinct, filter_map}
use Rattle.std.specs.Map.{keys_of, lookup}
use Rattle.std.specs.Cmp.Lexicographic.{pointwise}
use Rattle.cf_types.specs.declared.names.Name16.{Name16}
use Rattle.cf_types.specs.Name.{same_name}
use Rattle.cache_reclaim.specs.declared.used.Used.{Used}
use Rattle.cache_reclaim.specs.LastUse.{is_in_part}

-- what the slots hold, the most recently used first
abbrev pub used_in : List (ℕ × Option Used) → List Used
used_in es = filter_map (λ e. e.1) es

-- what a slot holds, where that is of a storage class, or of another one
abbrev pub part_of : ℕ → Bool → Option Used → Option Used
part_of stg own None = None
part_of stg own (Some used) = if is_in_part stg own used then Some used else None

-- the name that a slot holds, if it holds one
abbrev pub name_in : Option Used → List Name16
name_in None = []
name_in (Some used) = used.name ∷ []

-- the bytes of a name, as a key
abbrev pub by_name : Name16 → List ℕ → Bool
by_name name = pointwise nat_eq name.0

abbrev pub IsFree : List (ℕ × Option Used) → Type 0
IsFree [] = Unit {0}
IsFree (e ∷ es) = (e.1 ≡ None) × IsFree es

abbrev pub ends_free : Option Used → Type 0 → Type 0 → Type 0
ends_free None free rest = free
ends_free (Some u) free rest = rest

-- the free slots stand behind the others
abbrev pub EndsFree : List (ℕ × Option Used) → Type 0
EndsFree [] = Unit {0}
EndsFree (e ∷ es) = ends_free e.1 (IsFree es) (EndsFree es)

-- each name leads to its slot, and each slot's name to it
pub record IsTied (es : List (ℕ × Option Used)) (ns : List (List ℕ × ℕ)) (cap : ℕ) : Type 0 where
  pub full : length es ≡ cap
  pub unique : IsDistinct nat_eq (keys_of es)
  pub free_last : EndsFree es
  pub named : (k : ℕ) (u : Used) → lookup (nat_eq k) es ≡ Some (Some u) → lookup (by_name u.name) ns ≡ Some k
  pub slotted : (n : Name16) (k : ℕ) → lookup (by_name n) ns ≡ Some k
      → (s : ℕ) × (lookup (nat_eq k) es ≡ Some (Some (record { name = n; stg = s })))

-- the slot's name, and no other slot's, is this name
abbrev pub IsSlotOf : List (ℕ × Option Used) → Name16 → ℕ → Type 0
IsSlotOf es name k = (j : ℕ) (u : Used) → lookup (nat_eq j) es ≡ Some (Some u) → same_name u.name name ≡ nat_eq k j

-- one map of names is another with a slot written at a name, or none
abbrev pub WritesName : List (List ℕ × ℕ) → Name16 → Option ℕ → List (List ℕ × ℕ) → Type 0
WritesName ns name r ms = (q : Name16) → lookup (by_name q) ms ≡ cond (same_name name q) r (lookup (by_name q) ns)
