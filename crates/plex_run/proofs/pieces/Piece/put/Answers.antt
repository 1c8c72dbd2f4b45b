use Rattle.plex_run.proofs.Imports.{on_ok_weaker, on_err_weaker}
use Rattle.plex_run.proofs.{Written.GainsPrefix-after, Passing.passes-flushed}
use Rattle.plex_run.proofs.pieces.Piece.put.Goals as goal

pub returns-clause-passed : goal.returns-clause-passed
returns-clause-passed g c = on_ok_weaker c.begin.result (passes-flushed _ (g.K.Sink.held c.flush.new.sink)
    _ c.args.self.now.bytes.items _ c.args.text.now c.in_ok-flush.ensures.whole) c.begin.ensures.passed

pub returns-clause-front : goal.returns-clause-front
returns-clause-front g c = on_err_weaker c.begin.result (GainsPrefix-after _ (g.K.Sink.held c.flush.new.sink)
    _ c.args.self.now.bytes.items c.args.text.now c.in_ok-flush.ensures.whole) c.begin.ensures.front
