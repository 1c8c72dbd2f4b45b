use Rattle.plex_spell.proofs.Imports.{rules}
use Rattle.plex_spell.proofs.singles.fits.Goals as goal

-- the wrong body one_copy_too_many is refused at this goal
pub returns-then-piece-le-BODY_BYTES : goal.returns-then-piece-le-BODY_BYTES
returns-then-piece-le-BODY_BYTES c = search rules
