-- Texts that go out to a sink in pieces.
use Rattle.std.specs.Prelude.{◌≡◌, ℕ, List, ◌++◌, Option}
use Rattle.std.specs.Io.KnownBytes.{Appends}

-- A text was put behind what stood in a piece: what was written since, and then what stands in the piece now, is what
-- stood there before, and then the text.
pub record PassesOn (old new : Option (List ℕ)) (before after text : List ℕ) : Type 0 where
  pub written : List ℕ
  pub gained : Appends old new written
  pub rest : written ++ after ≡ before ++ text
