use Rattle.plex_spell.proofs.Imports.{rules}
use Rattle.plex_spell.proofs.texts.is_name.Goals as goal

-- the wrong body reserved_name is refused at this goal
pub returns-after-is-6 : goal.returns-after-is-6
returns-after-is-6 c = search rules
