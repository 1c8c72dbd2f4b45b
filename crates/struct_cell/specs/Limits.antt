-- When a call finds room in a journal.
use Rattle.std.specs.Prelude.{ℕ, ◌<◌, List, [], ◌∷◌}

-- the calls with these numbers came each to a journal with fewer entries than the limit: those up to the call before
abbrev pub AreMadeBelow : (limit last : ℕ) → List ℕ → Type 0
AreMadeBelow limit last [] = Unit {0}
AreMadeBelow limit last (number ∷ numbers) = (last < limit) × AreMadeBelow limit number numbers
