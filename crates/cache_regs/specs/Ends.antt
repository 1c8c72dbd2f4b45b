-- Registrations end, and their bits are told.
use Rattle.std.specs.Prelude.{◌≡◌, ℕ, ◌+◌, ◌≤◌, Bool, false, not, ◌&&◌, ◌==◌, nat_lt, List, length, filter, Option, Some, None}
use Rattle.cf_types.specs.declared.effects.BitChange.{BitChange}
use Rattle.cf_types.specs.declared.names.Name16.{Name16}
use Rattle.cf_types.specs.declared.numbers.ConnId.{ConnId}
use Rattle.cf_types.specs.Gains.{Gains}
use Rattle.cache_regs.specs.declared.registrations.Registration.{Registration}
use Rattle.cache_regs.specs.Registrations.{is_of, is_for, stands, ends_with_name}

-- a connector's for a name, but not at this index
abbrev pub is_elsewhere : ConnId → ℕ → Name16 → Registration → Bool
is_elsewhere conn index name reg = is_for conn name reg && not (reg.index == index)

-- a connector's below an index
abbrev pub is_below : ConnId → ℕ → Registration → Bool
is_below conn index reg = is_of conn reg && nat_lt reg.index index

-- whether a connector is the one that is spared
abbrev pub spares : Option ConnId → ConnId → Bool
spares None conn = false
spares (Some spared) conn = conn.0 == spared.0

-- of those that end with a name, a connector's, and those of the connectors below one
abbrev pub ends_of : Name16 → Option ConnId → ConnId → Registration → Bool
ends_of name spare conn reg = ends_with_name name spare reg && is_of conn reg

abbrev pub ends_below : Name16 → Option ConnId → ℕ → Registration → Bool
ends_below name spare conn reg = ends_with_name name spare reg && nat_lt reg.conn.0 conn

-- there is room to tell of the ends
abbrev pub FitsEnds : (Registration → Bool) → List Registration → ℕ → Type 0
FitsEnds ends regs room = length regs ≤ room + length (filter (λ reg. not (ends reg)) regs)

-- those that end are gone, and the bit of each was told
pub record HasEnded (ends : Registration → Bool) (before after : List Registration) (told later : List BitChange)
    (room left : ℕ) : Type 0 where
  pub gone : after ≡ filter (λ reg. not (ends reg)) before
  pub bits : Gains (stands before) (stands after) told later
  pub counted : left + length before ≡ room + length after
