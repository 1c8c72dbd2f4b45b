use Rattle.std.proofs.lemmas.Result.{IfOk-weaker}
use Rattle.report_read.proofs.HistoryLaws.{history_is, history_read}
use Rattle.report_read.proofs.histories.one_history.Goals as goal

pub returns-clause-read : goal.returns-clause-read
returns-clause-read c = IfOk-weaker c.behind_heading.result _ _ (λ step behind. (
  history_is c.args.script.now c.args.text.now c.args.from
      c.args.number c.in_ok-n.n step.0 c.in_ok-n.to step.1 c.in_ok-n.ensures.small behind,
  history_read c.args.script.now c.args.text.now c.args.from
      c.args.number c.in_ok-n.n step.0 c.in_ok-n.to step.1 c.in_ok-n.ensures.read behind,
)) c.behind_heading.ensures.read
