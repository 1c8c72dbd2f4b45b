-- A lock as contracts see it.
use Rattle.std.specs.Prelude.{refl}
use Rattle.std.specs.Coded.{Coded, code_by, coded×}
use Rattle.atomic_table.specs.Seated.{TableId, table_id_coded}

-- which lock it is, and its key
pub record Lock (K : Type 0) : Type 0 where
  pub name : TableId
  pub key : K

abbrev pub lock_code : {K : Type 0} → Coded K → Coded (Lock K)
lock_code {K} c = code_by (TableId × K) (coded× table_id_coded c) (λ l. (l.name, l.key))
    (λ p. record { name = p.0; key = p.1 }) (λ _. refl)
