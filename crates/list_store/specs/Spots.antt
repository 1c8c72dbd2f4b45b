-- A header and a place as a spot.
use Rattle.std.specs.Prelude.{ℕ}
use Rattle.list_store.specs.declared.records.Spot.{Spot}

abbrev pub as_spot : ℕ × ℕ → Spot
as_spot at = record { header = at.0; place = at.1 }
