-- Registrations: which connector has a valid copy of which name, at which index of its vector. They stand in the
-- order of connectors and, of one connector, of indexes.
use Rattle.std.specs.Prelude.{ℕ, Bool, IsTrue, false, not, ◌&&◌, ◌||◌, ◌==◌, nat_lt, List, Option, None, Some, option_map, filter, find}
use Rattle.std.specs.List.{list_any}
use Rattle.cf_types.specs.declared.names.Name16.{Name16}
use Rattle.cf_types.specs.declared.numbers.ConnId.{ConnId}
use Rattle.cf_types.specs.Name.{same_name}
use Rattle.cf_lists.specs.Pairwise.{pairwise}
use Rattle.cf_lists.specs.Insertions.{insertion}
use Rattle.cache_regs.specs.declared.registrations.Registration.{Registration}

abbrev pub is_of : ConnId → Registration → Bool
is_of conn reg = reg.conn.0 == conn.0

abbrev pub is_at : ConnId → ℕ → Registration → Bool
is_at conn index reg = is_of conn reg && (reg.index == index)

abbrev pub is_for : ConnId → Name16 → Registration → Bool
is_for conn name reg = is_of conn reg && same_name reg.name name

-- the name for which a connector is registered at an index
abbrev pub registered_at : List Registration → ConnId → ℕ → Option Name16
registered_at regs conn index = option_map (λ reg. reg.name) (find (is_at conn index) regs)

-- the index at which a connector is registered for a name
abbrev pub index_for : List Registration → ConnId → Name16 → Option ℕ
index_for regs conn name = option_map (λ reg. reg.index) (find (is_for conn name) regs)

-- the bit of a connector's vector at an index stands exactly where the connector is registered there
abbrev pub stands : List Registration → ConnId → ℕ → Bool
stands regs conn index = list_any (is_at conn index) regs

-- the registrations for a name, those for other names, and those of a connector
abbrev pub regs_for : Name16 → List Registration → List Registration
regs_for name regs = filter (λ reg. same_name reg.name name) regs

abbrev pub regs_for_others : Name16 → List Registration → List Registration
regs_for_others name regs = filter (λ reg. not (same_name reg.name name)) regs

abbrev pub regs_of : ConnId → List Registration → List Registration
regs_of conn regs = filter (is_of conn) regs

-- a connector's registrations are spared, where one is named
abbrev pub is_spared : Option ConnId → Registration → Bool
is_spared None reg = false
is_spared (Some conn) reg = is_of conn reg

abbrev pub ends_with_name : Name16 → Option ConnId → Registration → Bool
ends_with_name name spare reg = same_name reg.name name && not (is_spared spare reg)

-- the registrations for a name end, but those of the one that is spared
abbrev pub regs_without_name : Name16 → Option ConnId → List Registration → List Registration
regs_without_name name spare regs = filter (λ reg. not (ends_with_name name spare reg)) regs

-- a connector's registrations end
abbrev pub regs_without : ConnId → List Registration → List Registration
regs_without conn regs = filter (λ reg. not (is_of conn reg)) regs

abbrev pub stands_before : Registration → Registration → Bool
stands_before reg other =
    nat_lt reg.conn.0 other.conn.0 || ((reg.conn.0 == other.conn.0) && nat_lt reg.index other.index)

-- a registration takes the place of the connector's own at that index, and of its own for that name
abbrev pub is_replaced : ConnId → ℕ → Name16 → Registration → Bool
is_replaced conn index name reg = is_at conn index reg || is_for conn name reg

abbrev pub regs_with : ConnId → ℕ → Name16 → List Registration → List Registration
regs_with conn index name regs =
    let reg : Registration = record { conn = conn; index = index; name = name } in
    insertion (λ other. stands_before other reg) reg (filter (λ other. not (is_replaced conn index name other)) regs)

-- they aren't of one connector and for one name
abbrev pub names_apart : Registration → Registration → Bool
names_apart reg other = not ((reg.conn.0 == other.conn.0) && same_name reg.name other.name)

-- in order, so that a connector has one at most at an index; and one at most for a name
pub record IsRegistry (regs : List Registration) : Type 0 where
  pub ordered : IsTrue (pairwise stands_before regs)
  pub one_for_name : IsTrue (pairwise names_apart regs)
