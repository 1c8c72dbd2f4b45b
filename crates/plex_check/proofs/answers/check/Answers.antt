use Rattle.std.proofs.Common.{length, subst, sym}
use Rattle.caller_check.specs.Tables.{AreAnswered, rows_of}
use Rattle.plex_check.specs.Checks.{AreJudged}
use Rattle.plex_check.proofs.TableLaws.{tables_answer, tables_legal}
use Rattle.plex_check.proofs.answers.check.Goals as goal

pub check_callers-requires-clause-legal : goal.check_callers-requires-clause-legal
check_callers-requires-clause-legal c = tables_legal c.args.script.now c.args.printed.now
    (length c.args.script.now.structures) (rows_of c.in-Tables.tables.items)
    (subst (AreJudged c.args.script.now c.args.printed.now) c.in-Tables.is c.in_ok-on.ensures)

pub check_callers-requires-clause-answered : goal.check_callers-requires-clause-answered
check_callers-requires-clause-answered c = subst (λ l. AreAnswered c.args.script.now c.args.printed.now (rows_of l))
    (sym c.as_slice.ensures.value) (tables_answer c.args.script.now c.args.printed.now (rows_of c.in-Tables.tables.items)
    (subst (AreJudged c.args.script.now c.args.printed.now) c.in-Tables.is c.in_ok-on.ensures)
    c.requires.printed.structures)
