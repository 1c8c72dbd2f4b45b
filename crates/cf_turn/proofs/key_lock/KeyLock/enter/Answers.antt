use Rattle.cf_turn.proofs.Imports.{arith, rules}
use Rattle.cf_turn.proofs.Steps.{enters}
use Rattle.cf_turn.proofs.key_lock.KeyLock.enter.Goals as goal

pub load_new_seat-requires : goal.load_new_seat-requires
load_new_seat-requires g c = (
  search rules,
  enters g.F.Keeps.stands (g.F.Keeps.key_of c.self.inside.table.shared.key.value) _,
)

pub returns : goal.returns
returns g c = grind arith
