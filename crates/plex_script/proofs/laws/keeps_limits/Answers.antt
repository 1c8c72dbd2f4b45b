use Rattle.plex_script.proofs.KeptLimits.{script-limits}
use Rattle.plex_script.proofs.laws.keeps_limits.Goals as goal

pub returns : goal.returns
returns c = script-limits
