use Rattle.plex_spell.proofs.Imports.{rules}
use Rattle.plex_spell.proofs.fields.number.Goals as goal

-- the wrong body no_zero is refused at this goal
pub returns : goal.returns
returns c = search rules
