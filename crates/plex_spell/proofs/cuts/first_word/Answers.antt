use Rattle.plex_spell.proofs.Imports.{arith}
use Rattle.plex_spell.proofs.WordLists.{is_mark, words_of-first, place_or_length}
use Rattle.plex_spell.proofs.cuts.first_word.Goals as goal

pub returns : goal.returns
returns c = grind (arith, is_mark, place_or_length, words_of-first)
