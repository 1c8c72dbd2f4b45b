use Rattle.plex_agent.proofs.Imports.{arith, ap, slice_get_within}
use Rattle.plex_agent.proofs.{FloorLaws.found, FloorLaws.changed_fits, PlayLaws.on_ok, PlayLaws.takes}
use Rattle.plex_agent.proofs.floor.Floor.take.Goals as goal

pub take_in-sure-requires-clause-desk : goal.take_in-sure-requires-clause-desk
take_in-sure-requires-clause-desk g c κs within = (found c.requires.floor c.requires.line.caller c.self.view_is
    c.from.ensures c.worker.view_is c.index_mut-worker.ensures.value).fits

pub take_in-sure-requires-clause-place : goal.take_in-sure-requires-clause-place
take_in-sure-requires-clause-place g c κs within = grind (arith, slice_get_within)

pub returns : goal.returns
returns g c =
    let is = found c.requires.floor c.requires.line.caller c.self.view_is c.from.ensures c.worker.view_is
    c.index_mut-worker.ensures.value in
    record {
      took = on_ok c.push.result (takes c.requires.line.right is c.take_in-sure.ensures.desk
          c.take_in-sure.ensures.sure c.take_in-sure.ensures.tray) c.push.ensures.ok;
      of_board = changed_fits is _ _ c.take_in-sure.ensures.of_board (ap (λ d. d.owner) c.take_in-sure.ensures.desk)
          (grind arith);
    }
