-- A record of a list structure as contracts see it: its data as a list of bytes, wherever they lie.
use Rattle.std.specs.Prelude.{ℕ, List, Option}
use Rattle.cf_types.specs.declared.names.Key16.{Key16}
use Rattle.cf_types.specs.declared.names.Name16.{Name16}
use Rattle.cf_types.specs.declared.numbers.EntryId.{EntryId}

pub record Record : Type 0 where
  pub id : EntryId
  pub version : ℕ
  pub name : Option Name16
  pub key : Option Key16
  pub body : Option (List ℕ)
  pub adj : Option (List ℕ)
