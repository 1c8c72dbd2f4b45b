use Rattle.plex_agent.proofs.Imports.{arith, sym, ap, subst, slice_get_within, IsDeskOf}
use Rattle.plex_agent.proofs.{FloorLaws.found, FloorLaws.changed_fits, PlayLaws.on_ok, PlayLaws.posts}
use Rattle.plex_agent.proofs.floor.Floor.post.Goals as goal

pub post_in-sure-requires-clause-desk : goal.post_in-sure-requires-clause-desk
post_in-sure-requires-clause-desk g c κs within = (found c.requires.floor c.requires.line.caller c.self.view_is
    c.from.ensures c.worker.view_is c.index_mut-worker.ensures.value).fits

pub post_in-sure-requires-clause-place : goal.post_in-sure-requires-clause-place
post_in-sure-requires-clause-place g c κs within = grind (arith, slice_get_within)

pub returns : goal.returns
returns g c =
    let is = found c.requires.floor c.requires.line.caller c.self.view_is c.from.ensures c.worker.view_is
    c.index_mut-worker.ensures.value in
    let same = c.post_in-sure.ensures.desk in
    record {
      posted = on_ok c.push.result (posts c.requires.line.right is same c.post_in-sure.ensures.sure
          c.post_in-sure.ensures.ordered c.post_in-sure.ensures.tray) c.push.ensures.ok;
      of_board = changed_fits is _ _ (subst (λ d. IsDeskOf c.args.board.now d) (sym same) is.fits)
          (ap (λ d. d.owner) same) c.post_in-sure.ensures.of_board;
    }
