use Rattle.plex_run.proofs.Imports.{arith, on_ok_weaker, on_err_weaker, concat, Appends-trans}
use Rattle.plex_run.proofs.Written.{GainsPrefix-after, GainsPrefix-before, OnErr-always}
use Rattle.plex_run.proofs.writing.write_headed.Goals as goal

pub returns-in_err-write_text-clause-front : goal.returns-in_err-write_text-clause-front
returns-in_err-write_text-clause-front g c = OnErr-always _
    _ (GainsPrefix-before _ _ c.args.heading.now (concat c.args.report.now) c.in_err-write_text.ensures.front)

pub returns-clause-whole : goal.returns-clause-whole
returns-clause-whole g c = grind (arith, on_ok_weaker, Appends-trans)

pub returns-clause-front : goal.returns-clause-front
returns-clause-front g c = grind (arith, on_err_weaker, GainsPrefix-after)
