use Rattle.plex_script.proofs.Imports.{rules}
use Rattle.plex_script.proofs.checks.is_full.Goals as goal

-- the wrong body seventeenth_structure is refused at this goal
pub returns-else-is-2 : goal.returns-else-is-2
returns-else-is-2 c = search rules
