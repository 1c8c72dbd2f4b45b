use Rattle.plex_agent.proofs.Imports.{◌<◌, List, length, get_or, sym, ◌∙◌, ap, subst, arith, connectors, IsPlayable}
use Rattle.plex_agent.proofs.PlayLaws.{lines_more, closings_more}
use Rattle.plex_agent.proofs.floor.Floor.play.Goals as goal

pub line-requires-clause-line : goal.line-requires-clause-line
line-requires-clause-line g c κs within =
    let items = c.items-line-items.ensures in
    let item = c.line-item.is ∙ ap (λ lines. get_or lines c.loop-line.line-index c.line-item.result) items in
    let long = ap (λ lines. length lines) items in
    let test = c.loop-line-test.true in
    let below : c.loop-line.line-index < length c.args.script.now.lines = omega arith in
    subst (λ line. IsPlayable c.args.board.now line) (sym item)
    (c.requires.lines c.loop-line.line-index c.line-item.result below)

pub loop-line-preserved : goal.loop-line-preserved
loop-line-preserved g c =
    let items = c.items-line-items.ensures in
    let item = c.line-item.is ∙ ap (λ lines. get_or lines c.loop-line.line-index c.line-item.result) items in
    let long = ap (λ lines. length lines) items in
    let test = c.loop-line-test.true in
    let below : c.loop-line.line-index < length c.args.script.now.lines = omega arith in
    record {
      fits = c.in_ok-line.ensures.of_board;
      rest = lines_more c.args.board.now _ _ _ _ _ _ below item c.loop-line.invariant.rest
          c.in_ok-line.ensures.played;
    }

pub loop-before-preserved : goal.loop-before-preserved
loop-before-preserved g c =
    let long = ap (λ (names : List _). length names) c.items.ensures in
    let test = c.loop-before-test.true in
    let below : c.loop-before.before < length c.args.script.now.connectors = omega arith in
    record {
      fits = c.close.ensures.of_board;
      rest = closings_more c.args.board.now _ _ _ _ _ below c.loop-before.invariant.rest c.close.ensures.closed;
    }
