-- Whoever isn't leaving awaits no answer.
use Rattle.plex_shell.proofs.Imports.{arith, with_answer-same}
use Rattle.plex_shell.proofs.commands.events.excuse.Goals as goal

pub returns-in-Some-Active : goal.returns-in-Some-Active
returns-in-Some-Active c = grind (arith, with_answer-same)

pub returns-in-Some-Failed : goal.returns-in-Some-Failed
returns-in-Some-Failed c = grind (arith, with_answer-same)

pub returns-in-None : goal.returns-in-None
returns-in-None c = grind (arith, with_answer-same)
