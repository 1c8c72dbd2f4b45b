-- Registrations in two maps: names by connector and index, and indexes by connector and name.
use Rattle.std.specs.Prelude.{◌≡◌, ℕ, Bool, not, ◌&&◌, nat_eq, List, [], ◌∷◌, filter, min, Option, Some, cond}
use Rattle.std.specs.List.{IsDistinct}
use Rattle.std.specs.Map.{keys_of, lookup}
use Rattle.std.specs.Cmp.Lexicographic.{pointwise}
use Rattle.indexmap.specs.IndexMap.{spare}
use Rattle.cf_types.specs.declared.names.Name16.{Name16}
use Rattle.cf_types.specs.declared.numbers.ConnId.{ConnId}
use Rattle.cf_lists.specs.Insertions.{insertion}
use Rattle.cache_regs.specs.declared.registrations.Registration.{Registration}
use Rattle.cache_regs.specs.declared.maps.Maps.TheInside.{Inside}
use Rattle.cache_regs.specs.Registrations.{is_at, is_for, stands_before}

abbrev pub place_eq : ℕ × ℕ → ℕ × ℕ → Bool
place_eq x y = nat_eq x.0 y.0 && nat_eq x.1 y.1

abbrev pub named_eq : ℕ × List ℕ → ℕ × List ℕ → Bool
named_eq x y = nat_eq x.0 y.0 && pointwise nat_eq x.1 y.1

-- the name that a connector has at an index
abbrev pub at_place : List ((ℕ × ℕ) × Name16) → ConnId → ℕ → Option Name16
at_place places conn index = lookup (place_eq (conn.0, index)) places

-- the index that a connector has for a name
abbrev pub at_name : List ((ℕ × List ℕ) × ℕ) → ConnId → Name16 → Option ℕ
at_name names conn name = lookup (named_eq (conn.0, name.0)) names

abbrev pub reg_of : (ℕ × ℕ) × Name16 → Registration
reg_of e = record { conn = record { 0 = e.0.0 }; index = e.0.1; name = e.1 }

-- the registrations in the order of connectors and indexes, whatever the order of the entries is
abbrev pub regs_in : List ((ℕ × ℕ) × Name16) → List Registration
regs_in [] = []
regs_in (e ∷ es) = insertion (λ other. stands_before other (reg_of e)) (reg_of e) (regs_in es)

-- one map is another with a value written at a key, or none
abbrev pub WritesPlace : List ((ℕ × ℕ) × Name16) → ConnId → ℕ → Option Name16 → List ((ℕ × ℕ) × Name16) → Type 0
WritesPlace places conn index w after =
    (q : ℕ × ℕ) → lookup (place_eq q) after ≡ cond (place_eq (conn.0, index) q) w (lookup (place_eq q) places)

abbrev pub WritesName : List ((ℕ × List ℕ) × ℕ) → ConnId → Name16 → Option ℕ → List ((ℕ × List ℕ) × ℕ) → Type 0
WritesName names conn name w after =
    (q : ℕ × List ℕ) → lookup (named_eq q) after ≡ cond (named_eq (conn.0, name.0) q) w (lookup (named_eq q) names)

-- the two maps say the same
pub record IsAgreed (places : List ((ℕ × ℕ) × Name16)) (names : List ((ℕ × List ℕ) × ℕ)) : Type 0 where
  pub unique : IsDistinct place_eq (keys_of places)
  pub named : (conn : ConnId) (index : ℕ) (name : Name16) → at_place places conn index ≡ Some name
      → at_name names conn name ≡ Some index
  pub placed : (conn : ConnId) (name : Name16) (index : ℕ) → at_name names conn name ≡ Some index
      → at_place places conn index ≡ Some name

-- the registration at an index is the connector's one for a name
abbrev pub IsAloneFor : ConnId → Name16 → ℕ → List Registration → Type 0
IsAloneFor conn name index regs =
    (q : Registration → Bool) → filter (λ reg. not (is_at conn index reg && q reg)) regs ≡ filter
    (λ reg. not (is_for conn name reg && q reg)) regs

-- the registrations, and for how many more there is room in both maps
pub record RegList : Type 0 where
  pub regs : List Registration
  pub room : ℕ

abbrev pub reg_list : Inside → RegList
reg_list a = record { regs = regs_in a.by_place.entries; room = min (spare a.by_place) (spare a.by_name) }

abbrev pub AreAgreed : Inside → Type 0
AreAgreed a = IsAgreed a.by_place.entries a.by_name.entries
