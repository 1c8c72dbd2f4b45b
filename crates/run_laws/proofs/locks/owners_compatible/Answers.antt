use Rattle.run_laws.proofs.OwnerReplay.{owners_replay}
use Rattle.run_laws.proofs.locks.owners_compatible.Goals as goal

pub returns : goal.returns
returns c = owners_replay c.args.form.now c.args.history.now
