use Rattle.plex_run.proofs.CheckingLaws.{only_judged}
use Rattle.plex_run.proofs.checking.found_in.Goals as goal

pub returns-in-Ok-answered-clause-only : goal.returns-in-Ok-answered-clause-only
returns-in-Ok-answered-clause-only c = only_judged c.args.script.now c.args.text.now _ c.in-Ok-answered.answer
    c.one_reading.ensures c.in-Ok.ensures.report c.in-Ok.ensures.picked c.answered.ensures.one
    c.in-Ok-answered.ensures.judged
