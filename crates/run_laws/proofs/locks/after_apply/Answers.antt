use Rattle.run_laws.proofs.OwnerReplay.{owners_applied}
use Rattle.run_laws.proofs.locks.after_apply.Goals as goal

pub returns : goal.returns
returns c = owners_applied
