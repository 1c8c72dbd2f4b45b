-- How many names have a class, as one takes one.
use Rattle.std.proofs.Common.{ℕ, ◌+◌, ◌≤◌, List, length, not, arith}
use Rattle.std.specs.Prelude.{Some}
use Rattle.cf_types.specs.declared.names.Name16.{Name16}
use Rattle.cf_lists.proofs.{InsertionLaws.length-insertion, FilterLaws.length-filter-le}
use Rattle.cache_classes.specs.declared.changed.Changed.{Changed}
use Rattle.cache_classes.specs.Castout.{names_set, names_without, stands_before, is_named}

pub one_more : (name : Name16) (class : ℕ) (names : List Changed)
    → length (names_set name (Some class) names) ≤ length names + 1
one_more name class names = grind (arith, length-insertion, length-filter-le)
