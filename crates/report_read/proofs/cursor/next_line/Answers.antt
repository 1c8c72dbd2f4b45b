use Rattle.report_read.proofs.cursor.next_line.Goals as goal
use Rattle.report_read.proofs.LineLaws.{cut_found}

pub returns-clause-found : goal.returns-clause-found
returns-clause-found c = cut_found c.args.text.now c.rest_of.result.now c.in-Some.line.now c.args.from
    c.requires.placed c.rest_of.ensures c.in-Some.ensures.found.0 c.in-Some.ensures.found.1
