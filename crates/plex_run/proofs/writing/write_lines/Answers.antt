use Rattle.plex_run.proofs.Imports.{on_ok_weaker, on_err_weaker, rules}
use Rattle.plex_run.proofs.Written.{OnErr-always, OnOk-always}
use Rattle.plex_run.proofs.ReportLaws.{all_written, all_short, text_front, text_front_more}
use Rattle.plex_run.proofs.writing.write_lines.Goals as goal

pub returns-in-Err-clause-front : goal.returns-in-Err-clause-front
returns-in-Err-clause-front g c =
    text_front _ c.args.report.now c.loop-k.k c.loop-k.invariant.passed c.break_off.ensures.front

pub returns-in_default-clause-whole : goal.returns-in_default-clause-whole
returns-in_default-clause-whole g c = on_ok_weaker c.flush.result
    (all_written _ c.args.report.now c.loop-k.k c.loop-k.invariant.passed (search rules)) c.flush.ensures.whole

pub returns-in_default-clause-short : goal.returns-in_default-clause-short
returns-in_default-clause-short g c = OnOk-always
    _ _ (all_short c.args.report.now c.loop-k.k c.loop-k.invariant.bytes c.loop-k.invariant.small (search rules))

pub returns-in_default-clause-front : goal.returns-in_default-clause-front
returns-in_default-clause-front g c = on_err_weaker c.flush.result
    (text_front _ c.args.report.now c.loop-k.k c.loop-k.invariant.passed) c.flush.ensures.front

pub returns-in_default-checked_add-clause-front : goal.returns-in_default-checked_add-clause-front
returns-in_default-checked_add-clause-front g c =
    text_front _ c.args.report.now c.loop-k.k c.loop-k.invariant.passed c.break_off-in_default-checked_add.ensures.front

pub returns-in_err-put-clause-front : goal.returns-in_err-put-clause-front
returns-in_err-put-clause-front g c = OnErr-always _ _ (text_front_more _ c.args.report.now
    c.loop-k.k c.loop-k.invariant.passed c.deref.result.now (search rules) c.in_err-put.ensures.front)

pub returns-clause-front : goal.returns-clause-front
returns-clause-front g c =
    text_front _ c.args.report.now c.loop-k.k c.loop-k.invariant.passed c.break_off-2.ensures.front
