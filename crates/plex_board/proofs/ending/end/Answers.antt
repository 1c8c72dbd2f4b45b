use Rattle.plex_board.proofs.Imports.{arith, length-append}
use Rattle.plex_board.proofs.EndLaws.{taken-first, none-left, all-accounts, end-homes, end-ended, end-asked, end-count, end-done, asked-done}
use Rattle.plex_board.proofs.ending.end.Goals as goal

pub loop-station-preserved : goal.loop-station-preserved
loop-station-preserved g c =
    let before = c.loop-station.invariant in
    let left = c.in-Some.ensures.steps.0 in
    let at = taken-first c.next-in-loop-station.ensures.items c.unwrap-home.ensures in
    let said = c.close-history.ensures in
    let count = end-count left at in
    record {
      homes = end-homes left at before.homes;
      ended = end-ended left at _ _ _ _ _ c.push_reserved.ensures.items before.ended (assumption said)
          (all-accounts _ _ _ said.mine said.replies said.tests said.known);
      links = end-asked left at _ _ _ _ _ _ _ _
          c.push_reserved.ensures.items c.push_four.ensures.items said.links before.links;
      history_room =
          omega (arith, count, before.history_room, c.push_reserved.ensures.len, c.push_reserved.ensures.capacity);
      link_room = grind (arith, length-append);
    }

pub returns-clause-histories : goal.returns-clause-histories
returns-clause-histories g c = grind (arith, none-left, end-done)

pub returns-clause-links : goal.returns-clause-links
returns-clause-links g c = grind (arith, none-left, asked-done)
