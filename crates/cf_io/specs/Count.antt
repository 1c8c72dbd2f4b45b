-- Counts in a `u64`, which stand still at the end of their type.
use Rattle.std.specs.Prelude.{ℕ, ◌+◌, ◌-◌, ◌^◌, ◌<◌, ◌≤◌, List, min, Contains}

-- the count rose, unless it stood at the end of its type
abbrev pub Rises : ℕ → ℕ → Type 0
Rises old new = old < 2 ^ 64 - 1 → old < new

-- the count rose by so much, unless it stands at the end of its type
abbrev pub RisesBy : ℕ → ℕ → ℕ → Type 0
RisesBy n old new = new < 2 ^ 64 - 1 → old + n ≤ new

-- a count after one more
abbrev pub one_more : ℕ → ℕ
one_more n = min (n + 1) (2 ^ 64 - 1)

-- the call after so many is listed; calls are numbered from 1
abbrev pub IsListed : List ℕ → ℕ → Type 0
IsListed fails calls = Contains fails (calls + 1)
