use Rattle.plex_board.proofs.Imports.{arith}
use Rattle.plex_board.proofs.CloseLaws.{close_fits, close_homes, close_says, close_links}
use Rattle.plex_board.proofs.board.Board.close.Goals as goal

pub gather-requires : goal.gather-requires
gather-requires g c = close_fits c.args.self _ c.end-rest.result
    _ c.self.view_is c.self.invariant c.end-rest.ensures c.args.desks.items c.requires.desks c.requires.owners

pub end-requires-clause-homes : goal.end-requires-clause-homes
end-requires-clause-homes g c κs within = close_homes c.args.self _ c.end-rest.result _ c.self.view_is
    c.self.invariant c.end-rest.ensures c.args.desks.items c.requires.desks c.requires.owners _ c.gather.ensures

pub returns-clause-histories : goal.returns-clause-histories
returns-clause-histories g c =
    close_says c.args.self _ c.end-rest.result _ c.self.view_is c.self.invariant c.end-rest.ensures
    c.args.desks.items c.requires.desks c.requires.owners _ c.gather.ensures _ c.end.ensures.histories

pub returns-clause-links : goal.returns-clause-links
returns-clause-links g c = grind (arith, close_links)
