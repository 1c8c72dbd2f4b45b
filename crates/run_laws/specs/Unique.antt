-- A name has one row at most, and a connector one registration at most for an index, and for a name.
use Rattle.std.specs.Prelude.{ℕ, ◌≤◌, length, filter}
use Rattle.cf_types.specs.declared.names.Name16.{Name16}
use Rattle.cf_types.specs.declared.numbers.ConnId.{ConnId}
use Rattle.cache_model.specs.CacheRegs.Registrations.{is_at, is_for}
use Rattle.cache_model.specs.Contents.{Content}
use Rattle.cache_model.specs.Rows.{is_row_of}

pub record IsUnique (content : Content) : Type 0 where
  pub row : (name : Name16) → length (filter (is_row_of name) content.rows) ≤ 1
  pub index : (conn : ConnId) (index : ℕ) → length (filter (is_at conn index) content.regs) ≤ 1
  pub name : (conn : ConnId) (name : Name16) → length (filter (is_for conn name) content.regs) ≤ 1
