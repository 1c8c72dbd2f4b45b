-- Records in order.
use Rattle.std.specs.Prelude.{ℕ, IsTrue, ◌≤◌}
use Rattle.std.specs.List.{list_all}
use Rattle.cf_lists.specs.Pairwise.{pairwise}
use Rattle.list_store.specs.Lists.{Lists, all_records}
use Rattle.list_model.specs.Records.{names_apart, may_precede, elements_in}

-- those of each header by key, no two with one name, and their data in no more than so many elements
pub record IsOrderly (elements : ℕ) (lists : Lists) : Type 0 where
  pub ordered : IsTrue (list_all (pairwise may_precede) lists)
  pub one_for_name : IsTrue (pairwise names_apart (all_records lists))
  pub enough : elements_in (all_records lists) ≤ elements
