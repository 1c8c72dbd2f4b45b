use Rattle.cf_turn.proofs.Imports.{arith}
use Rattle.cf_turn.proofs.key_lock.KeyLock.put.Goals as goal

pub exchange-requires : goal.exchange-requires
exchange-requires g c = grind arith
