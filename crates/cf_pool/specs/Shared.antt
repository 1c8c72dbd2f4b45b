-- How chains and the free elements share a region.
use Rattle.std.specs.Prelude.{◌≡◌, ℕ, ◌+◌, ◌≤◌, ◌<◌, List, [], length, slice_index, slice_index_or, sum_by}
use Rattle.cf_pool.specs.declared.elements.TheConstants.{SIZE}
use Rattle.cf_pool.specs.Chains.{need_of, IsRun}

-- each element is in one chain, of which the first element is its owner, or among the free ones, whose owner is the
-- number of elements
pub record IsShared (cells : List (List ℕ)) (next lens : List ℕ) (head free : ℕ) : Type 0 where
  pub owner : ℕ → ℕ
  pub rank : ℕ → ℕ
  pub all_cells : length cells ≡ length next
  pub all_lens : length lens ≡ length next
  pub few : length next < 4294967296
  pub whole : (at : ℕ) → at < length next → length (slice_index_or cells at []) ≡ SIZE
  pub short : (at : ℕ) → slice_index lens at ≤ 4096
  pub free_run : IsRun owner rank next (length next) free head
  pub chain_runs : (at : ℕ) → at < length next → 0 < slice_index lens at
      → IsRun owner rank next at (need_of (slice_index lens at)) at
  pub all : sum_by need_of lens + free ≡ length next
