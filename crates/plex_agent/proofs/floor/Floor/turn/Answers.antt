use Rattle.plex_agent.proofs.Imports.{◌<◌, length, sym, subst, arith, slice_get_within, IsFloorOf}
use Rattle.plex_agent.proofs.{FloorLaws.acted_fits, PlayLaws.plays_counted, PlayLaws.plays_uncounted}
use Rattle.plex_agent.proofs.floor.Floor.turn.Goals as goal

pub returns-then-not-is_counted-clause-played : goal.returns-then-not-is_counted-clause-played
returns-then-not-is_counted-clause-played g c = plays_uncounted _ _ c.vector.ensures.form c.is_counted.ensures
    c.requires.turn c.if-not-is_counted.true c.work.ensures.turned

pub hear-requires-clause-place : goal.hear-requires-clause-place
hear-requires-clause-place g c κs within = grind (arith, slice_get_within)

pub index_mut-requires : goal.index_mut-requires
index_mut-requires g c = grind (arith, slice_get_within)

pub returns-clause-played : goal.returns-clause-played
returns-clause-played g c =
    let callers = c.requires.floor.workers.callers in
    let caller = c.requires.line.caller in
    let inside : c.args.line.now.by.0 < length c.args.self.now.workers = omega arith in
    plays_counted _ _ c.vector.ensures.form c.is_counted.ensures c.requires.turn c.if-not-is_counted.false
    inside c.hear.ensures.heard c.work-2.ensures.turned (grind arith)

pub returns-clause-of_board : goal.returns-clause-of_board
returns-clause-of_board g c = acted_fits (subst (λ floor. IsFloorOf c.args.board.now floor)
    (sym c.self.view_is) c.work-2.ensures.of_board) c.args.line.now.by c.from.result c.requires.line.caller
