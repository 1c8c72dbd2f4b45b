use Rattle.plex_script.proofs.ReadBack.{script-reads}
use Rattle.plex_script.proofs.laws.read_back.Goals as goal

pub returns : goal.returns
returns c = script-reads
