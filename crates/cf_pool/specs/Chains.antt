-- Elements that follow each other by links, and the bytes in them.
use Rattle.std.specs.Prelude.{◌≡◌, ℕ, zero, suc, ◌+◌, ◌-◌, ◌/◌, ◌<◌, List, [], ◌++◌, map, take, drop, length, slice_index, slice_index_or, slice_set, Option, None, Some}
use Rattle.std.specs.List.{enumerate_from}
use Rattle.cf_pool.specs.declared.elements.TheConstants.{SIZE}

-- how many elements so many bytes need
abbrev pub need_of : ℕ → ℕ
need_of n = (n + (SIZE - 1)) / SIZE

-- the element behind so many that follow each other from one on
abbrev pub behind : List ℕ → ℕ → ℕ → ℕ
behind next zero at = at
behind next (suc n) at = behind next n (slice_index next at)

-- all of them are in the region
abbrev pub IsWithin : List ℕ → ℕ → ℕ → Type 0
IsWithin next zero at = Unit {0}
IsWithin next (suc n) at = (at < length next) × IsWithin next n (slice_index next at)

-- the bytes of so many elements that follow each other
abbrev pub walked : List (List ℕ) → List ℕ → ℕ → ℕ → List ℕ
walked cells next zero at = []
walked cells next (suc n) at = take SIZE (slice_index_or cells at []) ++ walked cells next n (slice_index next at)

-- an element with bytes at its front
abbrev pub written : List ℕ → List ℕ → List ℕ
written part cell = part ++ drop (length part) cell

-- the elements once bytes are stored in so many that follow each other
abbrev pub stored : List ℕ → ℕ → ℕ → List ℕ → List (List ℕ) → List (List ℕ)
stored next zero at bytes cells = cells
stored next (suc n) at bytes cells =
    stored next n (slice_index next at) (drop SIZE bytes)
    (slice_set cells at (written (take SIZE bytes) (slice_index_or cells at [])))

-- the bytes of the chain that begins at an element, where one does: its length is not 0
abbrev pub chain_at : List (List ℕ) → List ℕ → ℕ → ℕ → Option (List ℕ)
chain_at cells next at zero = None
chain_at cells next at (suc n) = Some (take (suc n) (walked cells next (need_of (suc n)) at))

-- at each element, the chain that begins there
abbrev pub chains_in : List (List ℕ) → List ℕ → List ℕ → List (Option (List ℕ))
chains_in cells next lens = map (λ p. chain_at cells next p.0 p.1) (enumerate_from 0 lens)

-- so many elements that follow each other are of one owner, and each has the rank of how many follow it
abbrev pub IsRun : (ℕ → ℕ) → (ℕ → ℕ) → List ℕ → ℕ → ℕ → ℕ → Type 0
IsRun owner rank next label zero at = Unit {0}
IsRun owner rank next label (suc n) at =
    (at < length next) × (owner at ≡ label) × (rank at ≡ n)
    × IsRun owner rank next label n (slice_index next at)
