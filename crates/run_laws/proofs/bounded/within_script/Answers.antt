use Rattle.run_laws.proofs.BoundLaws.{within_script}
use Rattle.run_laws.proofs.bounded.within_script.Goals as goal

pub returns : goal.returns
returns c = within_script
