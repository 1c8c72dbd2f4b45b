-- Records whose data lie in chains of a pool, and the chains that no record has.
use Rattle.std.specs.Prelude.{ℕ, ◌+◌, ◌-◌, ◌&&◌, Bool, true, nat_le, List, [], ◌∷◌, length, sum_by, slice_index_or, slice_set, Option, None, Some}
use Rattle.cf_pool.specs.declared.chain.Chain.{Chain}
use Rattle.cf_pool.specs.Chains.{need_of}
use Rattle.cf_pool.specs.Pools.{IsChain, need_at, need_in}
use Rattle.list_store.specs.declared.records.Rec.{Rec}
use Rattle.list_store.specs.Record.{Record}

-- the data of a chain, and a record with its data, by the chains of a pool
abbrev pub body_in : List (Option (List ℕ)) → Option Chain → Option (List ℕ)
body_in chains None = None
body_in chains (Some chain) = slice_index_or chains chain.head None

abbrev pub record_in : List (Option (List ℕ)) → Rec → Record
record_in chains rec =
    record {
      id = rec.id;
      version = rec.version;
      name = rec.name;
      key = rec.key;
      body = body_in chains rec.body;
      adj = rec.adj;
    }

-- a record's chain is among these chains, if it has one
abbrev pub HasChain : List (Option (List ℕ)) → Option Chain → Type 0
HasChain chains None = Unit {0}
HasChain chains (Some chain) = IsChain chains chain.head

-- chains without a record's own
abbrev pub chains_less : Option Chain → List (Option (List ℕ)) → List (Option (List ℕ))
chains_less None loose = loose
chains_less (Some chain) loose = slice_set loose chain.head None

-- the chains that no record has
abbrev pub loose_in : List (Option (List ℕ)) → List Rec → List (Option (List ℕ))
loose_in chains [] = chains
loose_in chains (rec ∷ recs) = chains_less rec.body (loose_in chains recs)

-- these bytes in a chain of their own, in the place of another's
abbrev pub chain_put : List (Option (List ℕ)) → (old new : ℕ) → List ℕ → List (Option (List ℕ))
chain_put chains old new bytes = slice_set (slice_set chains old None) new (Some bytes)

-- how many elements are free then
abbrev pub free_put : ℕ → List (Option (List ℕ)) → ℕ → List ℕ → ℕ
free_put free chains old bytes = free + need_in chains old - need_of (length bytes)

-- each record has a chain of the pool that no other record has
abbrev pub AreHeld : List (Option (List ℕ)) → List Rec → Type 0
AreHeld chains [] = Unit {0}
AreHeld chains (rec ∷ recs) = HasChain (loose_in chains recs) rec.body × AreHeld chains recs

-- a chain has 1 to 4,096 bytes
abbrev pub is_data : Option (List ℕ) → Bool
is_data None = true
is_data (Some bytes) = nat_le 1 (length bytes) && nat_le (length bytes) 4096

-- how many elements the data of records take
abbrev pub elements_in : List Record → ℕ
elements_in recs = sum_by (λ rec. need_at rec.body) recs
