use Rattle.std.proofs.Common.{rules, ◌≡◌, ◌+◌, ◌≤◌, length, take, subst, ◌∙◌}
use Rattle.std.specs.Prelude.{All}
use Rattle.cf_types.specs.declared.forms.StrForm.{StrForm}
use Rattle.history_check.specs.Judging.{IsAt}
use Rattle.history_check.specs.Queues.{HasTestsOf, IsAsked}
use Rattle.history_check.proofs.Asked.{has_through, told_end}
use Rattle.history_check.proofs.Pairing.{pairs_then}
use Rattle.history_check.proofs.Steps.{finished, some_has}
use Rattle.history_check.proofs.judge.judge_all.Goals as goal

pub returns-in_err-next-clause-same : goal.returns-in_err-next-clause-same
returns-in_err-next-clause-same g c = pairs_then HasTestsOf HasTestsOf HasTestsOf has_through c.args.queues.now
    c.loop-now.queues c.next_block.new.queues c.loop-now.invariant.3 c.next_block.ensures.same

pub returns-in-None-clause-same : goal.returns-in-None-clause-same
returns-in-None-clause-same g c = pairs_then HasTestsOf HasTestsOf HasTestsOf has_through c.args.queues.now
    c.loop-now.queues c.next_block.new.queues c.loop-now.invariant.3 c.next_block.ensures.same

pub loop-now-preserved : goal.loop-now-preserved
loop-now-preserved g c =
    let same : c.next_block.new.machine.form ≡ c.args.machine.now.form =
    c.next_block.ensures.form ∙ c.loop-now.invariant.0 in (
      same,
      subst (λ (form : StrForm). IsAt g.E.Engine.meaning form c.next_block.new.machine.machine c.args.entries.now
          c.in-Some.next (c.loop-now.now + 1)) same
          (some_has _ c.in_ok-next.field-0 c.in-Some.next c.in-Some.is c.in_ok-next.ensures.at),
      subst (λ (form : StrForm). All (IsAsked g.E.Engine.meaning form (take c.in-Some.next c.args.entries.now))
          c.next_block.new.queues) same
          (some_has _ c.in_ok-next.field-0 c.in-Some.next c.in-Some.is c.in_ok-next.ensures.asked),
      pairs_then HasTestsOf HasTestsOf HasTestsOf has_through c.args.queues.now c.loop-now.queues
          c.next_block.new.queues c.loop-now.invariant.3 c.next_block.ensures.same,
    )

pub returns-clause-judged : goal.returns-clause-judged
returns-clause-judged g c =
    let past : length c.args.entries.now ≤ c.loop-now.now = search rules in
    finished g.E.Engine.meaning c.args.machine.now.form c.args.entries.now c.loop-now.machine.machine c.loop-now.start
    c.loop-now.now c.at_end.result c.loop-now.invariant.1 past c.at_end.ensures

pub returns-clause-told : goal.returns-clause-told
returns-clause-told g c legal = told_end g.E.Engine.meaning c.args.machine.now.form c.args.entries.now c.loop-now.start
    c.at_end.result c.loop-now.queues c.at_end.ensures legal c.loop-now.invariant.2
