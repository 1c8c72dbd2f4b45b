-- The mask of a table entry.
use Rattle.std.specs.Prelude.{◌≡◌, ◌<◌, List}
use Rattle.std.specs.List.{list_any}
use Rattle.cf_types.specs.declared.limits.TheConstants.{SET_NUMBERS}
use Rattle.cf_types.specs.declared.numbers.ConnId.{ConnId}
use Rattle.cf_types.specs.ConnSets.{is_member}
use Rattle.lock_table.specs.declared.holdings.Held.{Held}
use Rattle.lock_table.specs.Holdings.{is_by}

-- a mask has the connectors that have an interest in a resource of the entry
abbrev pub IsMasked : List ConnId → List Held → Type 0
IsMasked mask owners =
    (c : ConnId) → c.0 < SET_NUMBERS → is_member c mask ≡ list_any (is_by c) owners
