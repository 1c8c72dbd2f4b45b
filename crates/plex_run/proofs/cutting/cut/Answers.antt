use Rattle.plex_run.proofs.Imports.{sym, ◌∙◌, arith}
use Rattle.plex_run.proofs.CuttingLaws.{line_at, found_here, found_last, found_none, found_other}
use Rattle.plex_run.proofs.cutting.cut.Goals as goal

pub returns-then-is_report-clause-split : goal.returns-then-is_report-clause-split
returns-then-is_report-clause-split c = found_here c.args.text.now c.loop-place.at c.loop-place.rest.now
    c.loop-place.invariant c.in-Some.place c.behind-more.result.now (line_at c.loop-place.rest.now c.in-Some.place
    (sym c.feed_place.ensures ∙ c.in-Some.is)) c.behind-more.ensures (c.is_report.ensures.0 c.if-is_report.true)

pub loop-place-preserved : goal.loop-place-preserved
loop-place-preserved c = found_other c.args.text.now c.loop-place.at c.loop-place.rest.now
    c.loop-place.invariant c.in-Some.place _ c.behind-more.result.now (line_at c.loop-place.rest.now c.in-Some.place
    (sym c.feed_place.ensures ∙ c.in-Some.is)) (omega arith) c.behind-more.ensures (grind (arith, c.is_report.ensures, c.if-is_report.false))

pub returns-then-is_report-2-clause-split : goal.returns-then-is_report-2-clause-split
returns-then-is_report-2-clause-split c = found_last c.args.text.now c.loop-place.at c.loop-place.rest.now
    c.loop-place.invariant c.nothing.result.now c.nothing.ensures (c.is_report-2.ensures.0 c.if-is_report-2.true)

pub returns-clause-none : goal.returns-clause-none
returns-clause-none c = λ none. found_none c.args.text.now c.loop-place.at c.loop-place.rest.now
    c.loop-place.invariant (grind (arith, c.feed_place.ensures, c.in_default)) (grind (
      arith,
      c.is_report-2.ensures,
      c.if-is_report-2.false,
    ))
