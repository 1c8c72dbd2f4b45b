use Rattle.plex_script.proofs.FaultLaws.{one-fault}
use Rattle.plex_script.proofs.laws.one_fault.Goals as goal

pub returns : goal.returns
returns c = one-fault
