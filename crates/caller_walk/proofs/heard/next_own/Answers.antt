use Rattle.std.proofs.Common.{sym}
use Rattle.caller_walk.proofs.OwnLaws.{none_behind, found_behind}
use Rattle.caller_walk.proofs.heard.next_own.Goals as goal

pub returns-in-None-clause-none : goal.returns-in-None-clause-none
returns-in-None-clause-none g c = none_behind c.args.conn c.args.entries.now c.behind.result.now c.args.from
    c.behind.ensures (sym c.in-None.ensures)

pub returns-in-Some-clause-place : goal.returns-in-Some-clause-place
returns-in-Some-clause-place g c = found_behind c.args.conn c.args.entries.now c.behind.result.now c.args.from
    c.in-Some.place c.behind.ensures (sym c.in-Some.ensures)
