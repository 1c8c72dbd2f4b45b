use Rattle.plex_spell.proofs.Imports.{rules}
use Rattle.plex_spell.proofs.singles.connector_number.Goals as goal

-- the wrong body connectors_from_zero is refused at this goal
pub returns : goal.returns
returns c = search rules
