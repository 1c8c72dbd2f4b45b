use Rattle.plex_run.proofs.Imports.{arith, on_ok_weaker, on_err_weaker}
use Rattle.plex_run.proofs.ReportLaws.{report_text, headed_text}
use Rattle.plex_run.proofs.writing.write_run.Goals as goal

pub returns-clause-whole : goal.returns-clause-whole
returns-clause-whole g c = grind (arith, headed_text, on_ok_weaker)

pub returns-clause-short : goal.returns-clause-short
returns-clause-short g c = grind (arith, report_text, on_ok_weaker)

pub returns-clause-front : goal.returns-clause-front
returns-clause-front g c = grind (arith, headed_text, on_err_weaker)
