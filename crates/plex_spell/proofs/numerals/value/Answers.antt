use Rattle.plex_spell.proofs.Imports.{arith}
use Rattle.plex_spell.proofs.NumberLaws.{IsUtf8-numeral, parsed-numeral}
use Rattle.plex_spell.proofs.numerals.value.Goals as goal

pub returns-in_default : goal.returns-in_default
returns-in_default c = absurd (c.in_default.ensures.cases.0 (IsUtf8-numeral c.args.word.now c.requires))

pub returns : goal.returns
returns c = grind (arith, parsed-numeral)
