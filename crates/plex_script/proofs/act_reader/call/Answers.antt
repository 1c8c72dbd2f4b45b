use Rattle.plex_script.proofs.Imports.{rules}
use Rattle.plex_script.proofs.act_reader.call.Goals as goal

-- the wrong body retry_left_out is refused at this goal
pub returns : goal.returns
returns c = search rules
