-- What a command tells of the vector bits that it changed.
use Rattle.std.specs.Prelude.{◌≡◌, ℕ, ◌==◌, Bool, ◌&&◌, List, [], ◌∷◌, ◌++◌, map, filter}
use Rattle.cf_types.specs.declared.numbers.ConnId.{ConnId}
use Rattle.cf_types.specs.declared.effects.BitChange.{BitChange}

-- the bits of all connectors' vectors
abbrev pub Bits : Type 0
Bits = ConnId → ℕ → Bool

abbrev pub is_for : ConnId → ℕ → BitChange → Bool
is_for conn index change = (change.conn.0 == conn.0) && (change.index == index)

-- the values told of one bit, in order
abbrev pub bits_told : List BitChange → ConnId → ℕ → List Bool
bits_told changes conn index = map (λ change. change.bit) (filter (is_for conn index) changes)

-- what is to be told of a bit: its new value where it changed, and else nothing
abbrev pub difference : Bool → Bool → List Bool
difference Bool.false Bool.false = []
difference Bool.false Bool.true = Bool.true ∷ []
difference Bool.true Bool.false = Bool.false ∷ []
difference Bool.true Bool.true = []

-- exactly the bits that changed are told in addition, each once, with its new value
pub record Gains (before after : Bits) (old new : List BitChange) : Type 0 where
  pub added : List BitChange
  pub behind : new ≡ old ++ added
  pub exactly : (conn : ConnId) (index : ℕ) → bits_told added conn index ≡ difference (before conn index)
      (after conn index)
