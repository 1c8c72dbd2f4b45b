use Rattle.plex_agent.proofs.Imports.{sym, ap, subst, arith, ConnId, IsTrayOf}
use Rattle.plex_agent.proofs.{FloorLaws.at_desk, FloorLaws.found, FloorLaws.changed_fits, PlayLaws.takes_turn}
use Rattle.plex_agent.proofs.floor.Floor.work.Goals as goal

pub turn-requires-clause-desk : goal.turn-requires-clause-desk
turn-requires-clause-desk g c κs within = (found c.requires.floor c.requires.line.caller c.self.view_is
    c.from.ensures c.worker.view_is c.index_mut-worker.ensures.value).fits

pub turn-requires-clause-owner : goal.turn-requires-clause-owner
turn-requires-clause-owner g c κs within =
    let own = ap (λ (conn : ConnId). conn.0) (found c.requires.floor c.requires.line.caller c.self.view_is
    c.from.ensures c.worker.view_is c.index_mut-worker.ensures.value).own in
    let few = c.requires.floor.few in
    let caller = c.requires.line.caller in
    omega arith

pub turn-requires-clause-caller : goal.turn-requires-clause-caller
turn-requires-clause-caller g c κs within = sym (found c.requires.floor c.requires.line.caller c.self.view_is
    c.from.ensures c.worker.view_is c.index_mut-worker.ensures.value).own

pub returns : goal.returns
returns g c =
    let is = found c.requires.floor c.requires.line.caller c.self.view_is c.from.ensures c.worker.view_is
    c.index_mut-worker.ensures.value in
    let worker = at_desk c.turn.new.desk c.turn.new.shown in
    record {
      turned = takes_turn c.requires.line.right is worker c.turn.ensures.turned;
      of_board = changed_fits is worker _ c.turn.ensures.of_board c.turn.ensures.owner
          (subst (λ floor. IsTrayOf c.args.board.now floor.tray) (sym c.self.view_is) c.requires.floor.tray);
    }
