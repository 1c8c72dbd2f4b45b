use Rattle.plex_agent.proofs.Imports.{◌≡◌, ◌<◌, ◌≤◌, length, sym, ◌∙◌, ap, arith, with_items_is, Some, ConnId}
use Rattle.plex_agent.proofs.FloorLaws.{at_desk, found, changed_all_fits, filled_more, filled_all}
use Rattle.plex_agent.proofs.PlayLaws.{hears_more, heard_everywhere, closes_one, closes_nothing}
use Rattle.plex_agent.proofs.floor.Floor.close.Goals as goal

pub returns-then-not-is_working-clause-closed : goal.returns-then-not-is_working-clause-closed
returns-then-not-is_working-clause-closed g c =
    closes_nothing c.args.board.now c.args.conn c.args.self.now (sym c.is_working.ensures ∙ c.if-not-is_working.true)

pub loop-place-preserved : goal.loop-place-preserved
loop-place-preserved g c =
    let count = c.requires.floor.workers.callers in
    let within = c.requires.conn in
    let inside : c.args.conn.0 < length c.args.self.now.workers = omega arith in
    let cells = c.structures-place-end.ensures in
    let test = c.loop-place-test.true in
    let below : c.loop-place.place < length c.args.board.now.cells = omega arith in
    hears_more c.loop-place.invariant c.hear.ensures.of_board below inside c.hear.ensures.heard

pub closing-requires-clause-owner : goal.closing-requires-clause-owner
closing-requires-clause-owner g c κs within =
    let own = ap (λ (conn : ConnId). conn.0) (found c.loop-place.invariant.fits c.requires.conn c.self-2.view_is
    c.from.ensures c.worker.view_is c.index_mut-worker.ensures.value).own in
    let few = c.requires.floor.few in
    let caller = c.requires.conn in
    omega arith

pub loop-last-preserved : goal.loop-last-preserved
loop-last-preserved g c = grind (arith, filled_more)

pub returns : goal.returns
returns g c =
    let count = c.requires.floor.workers.callers in
    let within = c.requires.conn in
    let inside : c.args.conn.0 < length c.args.self.now.workers = omega arith in
    let cells = c.structures-place-end.ensures in
    let test = c.loop-place-test.false in
    let over : length c.args.board.now.cells ≤ c.loop-place.place = omega arith in
    let value = ap (λ l. length l) c.deref_mut-last-items.ensures.value in
    let long = c.loop-last.auto.last-items in
    let count = c.self-2.inside.last.ok.0 in
    let same : length c.loop-last.last-items ≡ c.self-2.inside.last.len = omega arith in
    let is = found c.loop-place.invariant.fits c.requires.conn c.self-2.view_is c.from.ensures c.worker.view_is
    c.index_mut-worker.ensures.value in
    let worker = at_desk c.closing.new.desk c.closing.new.shown in
    let last = filled_all (Some c.args.conn)
    (with_items_is c.self-2.inside.last c.loop-last.last-items same) c.loop-last.invariant
    c.loop-last-test.false c.loop-last.auto.last-index-end c.deref_mut-last-items.ensures.value in
    record {
      closed = grind (arith, closes_one, heard_everywhere);
      of_board = changed_all_fits is worker _ last c.requires.conn c.closing.ensures.of_board c.closing.ensures.owner;
    }
