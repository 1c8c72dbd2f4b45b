use Rattle.plex_script.proofs.Imports.{rules}
use Rattle.plex_script.proofs.printer.put_act.Goals as goal

-- the wrong body prints_a_test_of_a_word_as_one_of_a_bit is refused at this goal
pub returns-in-TestWord : goal.returns-in-TestWord
returns-in-TestWord c = search rules
