use Rattle.lock_interests.proofs.Imports.{arith}
use Rattle.lock_interests.proofs.OwnerLaws.{keys-joined}
use Rattle.lock_interests.proofs.interests.Interests.order.Goals as goal

pub returns : goal.returns
returns c = grind (arith, keys-joined)
