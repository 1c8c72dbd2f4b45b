-- A registration comes in the place of what stands at its index, and what is told of it; what stands at an index.
use Rattle.std.specs.Prelude.{ℕ, true, not, Option, Some, None, if◌then◌else◌, List, [], ◌∷◌, filter}
use Rattle.cf_types.specs.declared.effects.BitChange.{BitChange}
use Rattle.cf_types.specs.declared.names.Name16.{Name16}
use Rattle.cf_lists.specs.Insertions.{insertion}
use Rattle.cache_regs.specs.declared.registrations.Registration.{Registration}
use Rattle.cache_regs.specs.Registrations.{is_at, stands, stands_before}

abbrev pub with_reg : Registration → List Registration → List Registration
with_reg new regs = insertion (λ reg. stands_before reg new) new (filter (λ reg. not (is_at new.conn new.index reg))
    regs)

-- the bit of a registration that comes is set
abbrev pub set_change : Registration → BitChange
set_change reg = record { conn = reg.conn; index = reg.index; bit = true }

-- where its bit stands already, nothing is told
abbrev pub set_changes : Registration → List Registration → List BitChange
set_changes new regs = if stands regs new.conn new.index then [] else set_change new ∷ []

-- the index with the name there, if there is one
abbrev pub named_at : ℕ → Option Name16 → List (ℕ × Name16)
named_at index None = []
named_at index (Some name) = (index, name) ∷ []
