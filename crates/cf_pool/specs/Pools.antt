-- A pool, seen as a finite map from chains to bytes and a number of free elements.
use Rattle.std.specs.Prelude.{◌≡◌, ℕ, ◌+◌, ◌-◌, List, Option, Some, None, length, slice_get, slice_index_or, slice_set}
use Rattle.cf_pool.specs.declared.pool.Pool.TheInside.{Inside}
use Rattle.cf_pool.specs.Chains.{need_of, chains_in}
use Rattle.cf_pool.specs.Shared.{IsShared}

-- at each element, the bytes of the chain that begins there, where one does
pub record Chains : Type 0 where
  pub chains : List (Option (List ℕ))
  pub free : ℕ

-- a chain begins at an element
abbrev pub IsChain : List (Option (List ℕ)) → ℕ → Type 0
IsChain chains at = (bytes : List ℕ) × (slice_get chains at ≡ Some (Some bytes))

abbrev pub need_at : Option (List ℕ) → ℕ
need_at None = 0
need_at (Some bytes) = need_of (length bytes)

-- how many elements the chain has that begins at an element
abbrev pub need_in : List (Option (List ℕ)) → ℕ → ℕ
need_in chains at = need_at (slice_index_or chains at None)

-- a chain more, and one less
abbrev pub with_chain : Chains → ℕ → List ℕ → Chains
with_chain pool at bytes =
    record { chains = slice_set pool.chains at (Some bytes); free = pool.free - need_of (length bytes) }

abbrev pub without_chain : Chains → ℕ → Chains
without_chain pool at =
    record { chains = slice_set pool.chains at None; free = pool.free + need_in pool.chains at }

abbrev pub chains_of : Inside → Chains
chains_of p = record { chains = chains_in p.cells.items p.next.items p.lens.items; free = p.free }

abbrev pub IsPool : Inside → Type 0
IsPool p = IsShared p.cells.items p.next.items p.lens.items p.head p.free
