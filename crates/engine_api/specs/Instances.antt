-- Where the instances of a structure stand, and where one can be made.
use Rattle.std.specs.Prelude.{ℕ, ◌+◌, Bool, false, ◌==◌, nat_le, List, find, fold, map, max, Option, None, Some, option_map}
use Rattle.cf_types.specs.declared.forms.Caps.{Caps}
use Rattle.cf_types.specs.declared.forms.Pref.{Pref}
use Rattle.cf_types.specs.declared.numbers.CfId.{CfId}

-- the facilities of the primary and of the secondary
pub record Instances : Type 0 where
  pub primary : Option CfId
  pub secondary : Option CfId

abbrev pub no_instance : Instances
no_instance = record { primary = None; secondary = None }

abbrev pub is_at : CfId → Option CfId → Bool
is_at cf None = false
is_at cf (Some other) = other.0 == cf.0

-- the units that an instance of this capacity takes
abbrev pub units_of : Caps → ℕ
units_of caps = caps.entries + caps.elements

-- the first of some facilities that has the units
abbrev pub place_for : ℕ → List Pref → Option CfId
place_for units prefs = option_map (λ pref. pref.cf) (find (λ pref. nat_le units pref.units) prefs)

-- the greatest units that one of them has
abbrev pub greatest_units : List Pref → ℕ
greatest_units prefs = fold max 0 (map (λ pref. pref.units) prefs)
