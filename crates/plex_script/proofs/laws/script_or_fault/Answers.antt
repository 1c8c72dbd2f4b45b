use Rattle.plex_script.proofs.DecidedLaws.{text-decided}
use Rattle.plex_script.proofs.laws.script_or_fault.Goals as goal

pub returns : goal.returns
returns c = text-decided
