use Rattle.plex_spell.proofs.TextLaws.{IsTerm-take}
use Rattle.plex_spell.proofs.texts.text.Goals as goal

pub returns-then-eq-clause-term : goal.returns-then-eq-clause-term
returns-then-eq-clause-term c = IsTerm-take c.args.limit c.args.word.now c.requires (cc)
