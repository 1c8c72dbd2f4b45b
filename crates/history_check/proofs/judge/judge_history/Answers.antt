use Rattle.std.proofs.Common.{◌≡◌, subst}
use Rattle.std.specs.Prelude.{All, IfOk}
use Rattle.cf_types.specs.declared.forms.StrForm.{StrForm}
use Rattle.vector_waits.specs.Waits.{AreSettled}
use Rattle.history_check.specs.declared.judged.Judged.{Judged}
use Rattle.history_check.specs.Judging.{IsJudged}
use Rattle.history_check.specs.Queues.{HasTestsOf}
use Rattle.history_check.proofs.Asked.{has_itself}
use Rattle.history_check.proofs.Pairing.{pairs_same}
use Rattle.history_check.proofs.judge.judge_history.Goals as goal

pub returns-in_err-machine-clause-same : goal.returns-in_err-machine-clause-same
returns-in_err-machine-clause-same g c = pairs_same HasTestsOf has_itself c.args.queues.now

pub returns-clause-judged : goal.returns-clause-judged
returns-clause-judged g c = subst (λ (form : StrForm). IfOk c.judge_all.result (IsJudged g.E.Engine.meaning form
    c.args.entries.now)) c.in_ok-machine.ensures.form c.judge_all.ensures.judged

pub returns-clause-told : goal.returns-clause-told
returns-clause-told g c = subst (λ (form : StrForm). IfOk c.judge_all.result (λ found. found ≡ Judged.Legal → All
    (AreSettled g.E.Engine.meaning form c.args.entries.now) c.judge_all.new.queues)) c.in_ok-machine.ensures.form
    c.judge_all.ensures.told

pub returns-clause-same : goal.returns-clause-same
returns-clause-same g c = c.judge_all.ensures.same
