-- How the slab, the orders and the map from ids hold the same records.
use Rattle.std.specs.Prelude.{◌≡◌, ℕ, true, List, map, Option, Some, None, unwrap_or, nat_eq, cond}
use Rattle.std.specs.Map.{lookup}
use Rattle.slab.specs.Slab.{Slab, get}
use Rattle.cf_lists.specs.Lists.{AreApart}
use Rattle.cf_lists.specs.Orders.{stands}
use Rattle.list_store.specs.declared.records.Rec.{Rec}

-- no record has the id 0
abbrev pub no_rec : Rec
no_rec = record { id = record { 0 = 0 }; version = 0; name = None; key = None; body = None; adj = None }

abbrev pub rec_id : Rec → ℕ
rec_id rec = rec.id.0

-- the record under a key
abbrev pub rec_at : Slab Rec → ℕ → Rec
rec_at slab key = unwrap_or (get slab key) no_rec

-- the records of each header
abbrev pub lists_at : Slab Rec → List (List ℕ) → List (List Rec)
lists_at slab orders = map (map (rec_at slab)) orders

-- the header and the key that the map has for an id
abbrev pub spot_for : List (ℕ × (ℕ × ℕ)) → ℕ → Option (ℕ × ℕ)
spot_for spots id = lookup (nat_eq id) spots

-- one map is another with a value written at a key, or none
abbrev pub Writes : List (ℕ × (ℕ × ℕ)) → ℕ → Option (ℕ × ℕ) → List (ℕ × (ℕ × ℕ)) → Type 0
Writes old id w new = (q : ℕ) → spot_for new q ≡ cond (nat_eq id q) w (spot_for old q)

-- a record lies under the key, and the map has the header and the key for its id
pub record IsHeld (slab : Slab Rec) (spots : List (ℕ × (ℕ × ℕ))) (h k : ℕ) : Type 0 where
  pub «record» : Rec
  pub there : get slab k ≡ Some «record»
  pub spot : spot_for spots «record».id.0 ≡ Some (h, k)

-- the map's key stands in the map's header, and the record under it has the id
pub record IsFound (slab : Slab Rec) (orders : List (List ℕ)) (id h k : ℕ) : Type 0 where
  pub «record» : Rec
  pub there : get slab k ≡ Some «record»
  pub same : «record».id.0 ≡ id
  pub stands : stands orders h k ≡ true

pub record IsTied (slab : Slab Rec) (orders : List (List ℕ)) (spots : List (ℕ × (ℕ × ℕ))) : Type 0 where
  pub apart : AreApart rec_id (lists_at slab orders)
  pub held : (h k : ℕ) → stands orders h k ≡ true → IsHeld slab spots h k
  pub found : (id h k : ℕ) → spot_for spots id ≡ Some (h, k) → IsFound slab orders id h k
