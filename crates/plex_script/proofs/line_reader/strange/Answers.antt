use Rattle.plex_script.proofs.Imports.{rules}
use Rattle.plex_script.proofs.line_reader.strange.Goals as goal

-- the wrong body unknown_is_syntax is refused at this goal
pub returns : goal.returns
returns c = search rules
