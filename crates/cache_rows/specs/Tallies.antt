-- What is counted of rows.
use Rattle.std.specs.Prelude.{◌≡◌, ℕ, ◌+◌, ◌≤◌, ◌<◌, Bool, IsTrue, nat_le, is_none, if◌then◌else◌, List, Option, length, sum_by}
use Rattle.std.specs.List.{list_all}
use Rattle.cache_model.specs.declared.items.CacheItem.{CacheItem}
use Rattle.cache_model.specs.Rows.{elements_of, elements_in}
use Rattle.cache_rows.specs.declared.tally.Tally.{Tally}

-- a number where there is no castout class
abbrev pub unless_changed : Option ℕ → ℕ → ℕ
unless_changed class number = if is_none class then number else 0

-- what an unchanged row counts: one, and the elements of its data
abbrev pub one_unchanged : CacheItem → ℕ
one_unchanged row = unless_changed row.class 1

abbrev pub elements_unchanged : CacheItem → ℕ
elements_unchanged row = unless_changed row.class (elements_of row.body)

-- the data of a row take 16 elements at most
abbrev pub is_small : CacheItem → Bool
is_small row = nat_le (elements_of row.body) 16

-- a row more, of this castout class and with so many elements
abbrev pub tally_of : Option ℕ → ℕ → Tally → Tally
tally_of class elements tally =
    record {
      rows = tally.rows + 1;
      elements = tally.elements + elements;
      unchanged = tally.unchanged + unless_changed class 1;
      reclaimable = tally.reclaimable + unless_changed class elements;
    }

abbrev pub tally_with : CacheItem → Tally → Tally
tally_with row tally = tally_of row.class (elements_of row.body) tally

pub record IsTally (tally : Tally) (all : List CacheItem) : Type 0 where
  pub rows : tally.rows ≡ length all
  pub elements : tally.elements ≡ elements_in all
  pub unchanged : tally.unchanged ≡ sum_by one_unchanged all
  pub reclaimable : tally.reclaimable ≡ sum_by elements_unchanged all
  pub small : IsTrue (list_all is_small all)

-- numbers that one row more doesn't raise past their types
pub record CanGrow (tally : Tally) : Type 0 where
  pub rows : tally.rows < 4294967295
  pub elements : tally.elements ≤ 68719476720
  pub unchanged : tally.unchanged ≤ tally.rows
  pub reclaimable : tally.reclaimable ≤ tally.elements

-- a row of this castout class and with so many elements is counted in them
pub record CanShrink (class : Option ℕ) (taken : ℕ) (tally : Tally) : Type 0 where
  pub rows : 1 ≤ tally.rows
  pub elements : taken ≤ tally.elements
  pub unchanged : unless_changed class 1 ≤ tally.unchanged
  pub reclaimable : unless_changed class taken ≤ tally.reclaimable
