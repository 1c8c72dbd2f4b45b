-- The judge has come to this entry, and the tests up to its block are settled.
use Rattle.std.proofs.Common.{◌≡◌, take}
use Rattle.std.specs.Prelude.{All}
use Rattle.history_check.specs.Judging.{IsAt}
use Rattle.history_check.specs.Queues.{HasTestsOf, IsAsked, Pairs}
use Rattle.history_check.proofs.judge.judge_all.Given as goal

abbrev pub invariant-loop-now : goal.invariant-loop-now
invariant-loop-now g l = (l.machine.form ≡ l.fn.machine.form)
    × IsAt g.E.Engine.meaning l.fn.machine.form l.machine.machine l.entries l.start l.now × All (IsAsked
    g.E.Engine.meaning l.fn.machine.form (take l.start l.entries)) l.queues × Pairs HasTestsOf l.fn.queues l.queues
