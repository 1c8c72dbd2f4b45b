use Rattle.plex_script.proofs.FormedLines.{script-formed}
use Rattle.plex_script.proofs.laws.well_formed.Goals as goal

pub returns : goal.returns
returns c = script-formed c.args.text.now c.args.script.now c.requires
