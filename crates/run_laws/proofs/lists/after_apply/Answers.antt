use Rattle.run_laws.proofs.VersionReplay.{versions_applied}
use Rattle.run_laws.proofs.lists.after_apply.Goals as goal

pub returns : goal.returns
returns c = versions_applied
