-- How many rows have which number: as storage class, as storage class of a changed row, as castout class.
use Rattle.std.specs.Prelude.{◌≡◌, ℕ, ◌+◌, ◌<◌, ◌≤◌, Bool, false, ◌==◌, if◌then◌else◌, List, Option, Some, None, sum_by, slice_index_or}
use Rattle.cache_model.specs.declared.items.CacheItem.{CacheItem}
use Rattle.cache_rows.specs.declared.counts.Counts.{Counts}

-- one for the number that there is, and nothing for the others
abbrev pub is_key : ℕ → Option ℕ → Bool
is_key k None = false
is_key k (Some key) = key == k

abbrev pub ones : ℕ → Option ℕ → ℕ
ones k key = if is_key k key then 1 else 0

-- the storage class of a row, and that of one that is changed
abbrev pub storage_key : CacheItem → Option ℕ
storage_key row = Some row.stg

abbrev pub changed_key : Option ℕ → ℕ → Option ℕ
changed_key None stg = None
changed_key (Some class) stg = Some stg

-- how many rows have a number, for each of the numbers from 0 to 16
abbrev pub IsCount : (CacheItem → Option ℕ) → List ℕ → List CacheItem → Type 0
IsCount key counts rows =
    (k : ℕ) → k < 17 → slice_index_or counts k 0 ≡ sum_by (λ row. ones k (key row)) rows

pub record AreCounts (counts : Counts) (rows : List CacheItem) : Type 0 where
  pub storage : IsCount storage_key counts.storage rows
  pub changed : IsCount (λ row. changed_key row.class row.stg) counts.changed rows
  pub castout : IsCount (λ row. row.class) counts.castout rows

-- one more of a number
abbrev pub IsMore : Option ℕ → List ℕ → List ℕ → Type 0
IsMore key less more = (k : ℕ) → k < 17 → slice_index_or more k 0 ≡ slice_index_or less k 0 + ones k key

-- one more row of these classes
pub record IsMoreOf (class : Option ℕ) (stg : ℕ) (less more : Counts) : Type 0 where
  pub storage : IsMore (Some stg) less.storage more.storage
  pub changed : IsMore (changed_key class stg) less.changed more.changed
  pub castout : IsMore class less.castout more.castout

-- numbers that one more doesn't raise past their type, and numbers from which one may be taken
abbrev pub AreBelow : List ℕ → Type 0
AreBelow counts = (k : ℕ) → k < 17 → slice_index_or counts k 0 < 4294967295

abbrev pub AreAbove : Option ℕ → List ℕ → Type 0
AreAbove key counts = (k : ℕ) → k < 17 → ones k key ≤ slice_index_or counts k 0

pub record CanAdd (counts : Counts) : Type 0 where
  pub storage : AreBelow counts.storage
  pub changed : AreBelow counts.changed
  pub castout : AreBelow counts.castout

pub record CanLower (class : Option ℕ) (stg : ℕ) (counts : Counts) : Type 0 where
  pub storage : AreAbove (Some stg) counts.storage
  pub changed : AreAbove (changed_key class stg) counts.changed
  pub castout : AreAbove class counts.castout

pub record AreZero (counts : Counts) : Type 0 where
  pub storage : (k : ℕ) → slice_index_or counts.storage k 0 ≡ 0
  pub changed : (k : ℕ) → slice_index_or counts.changed k 0 ≡ 0
  pub castout : (k : ℕ) → slice_index_or counts.castout k 0 ≡ 0
