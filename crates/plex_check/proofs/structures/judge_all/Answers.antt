use Rattle.caller_check.specs.Tables.{rows_of}
use Rattle.plex_check.proofs.TableLaws.{bad_found, legal_found}
use Rattle.plex_check.proofs.structures.judge_all.Goals as goal

pub returns-in-Bad : goal.returns-in-Bad
returns-in-Bad c = bad_found c.args.script.now c.args.printed.now c.loop-number.number c.in-Bad.place
    (rows_of c.loop-number.tables.items) c.loop-number.invariant c.in_ok-judged.judged c.in_ok-judged.table.items
    c.in-Bad.is c.in_ok-judged.ensures

pub loop-number-preserved : goal.loop-number-preserved
loop-number-preserved c = legal_found c.args.script.now c.args.printed.now c.loop-number.number
    c.loop-number.tables.items c.push.new.self.items c.in_ok-judged.table c.loop-number.invariant
    c.in_ok-judged.judged c.in-Legal.is c.in_ok-judged.ensures c.in_ok-push-in-Legal.ensures.items
