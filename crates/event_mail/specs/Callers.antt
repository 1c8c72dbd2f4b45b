-- Sets of callers.
use Rattle.std.specs.Prelude.{◌≡◌, List, filter}
use Rattle.cf_types.specs.declared.limits.TheConstants.{CALLERS}
use Rattle.cf_types.specs.ConnSets.{conns_from, is_member}
use Rattle.cf_types.specs.declared.numbers.ConnId.{ConnId}

-- the operator and the connectors alone, in number order
pub record AreCallers (set : List ConnId) : Type 0 where
  pub in_order : set ≡ filter (λ conn. is_member conn set) (conns_from 0 CALLERS)
