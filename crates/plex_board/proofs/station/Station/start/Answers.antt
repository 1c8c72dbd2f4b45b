use Rattle.plex_board.proofs.Imports.{◌≡◌, ap, ◌∙◌, arith, passes_shown, cell_shown}
use Rattle.plex_board.proofs.UnusedPassLaws.{unused_links, unused_none}
use Rattle.plex_board.proofs.StationLaws.{started-passes, new-of_cell, last-of_cell, has-last, room-again}
use Rattle.plex_board.proofs.station.Station.start.Goals as goal

pub unwrap-pass-requires : goal.unwrap-pass-requires
unwrap-pass-requires g c = has-last _ _ _ _ _ _ c.in_ok-cell.ensures.passes c.pop.ensures.none

pub tell-first-requires-after_bounds : goal.tell-first-requires-after_bounds
tell-first-requires-after_bounds g c κs within =
    let last = rw c.unwrap-pass.ensures at c.pop.ensures.some in
    last-of_cell _ c.in_ok-cell.ensures.cell c.in_ok-cell.ensures.passes _ _ last

pub put-requires-clause-str_type : goal.put-requires-clause-str_type
put-requires-clause-str_type g c =
    let last = rw c.unwrap-pass.ensures at c.pop.ensures.some in
    let of = last-of_cell _ c.in_ok-cell.ensures.cell c.in_ok-cell.ensures.passes _ _ last in
    grind arith

pub put-requires-clause-room : goal.put-requires-clause-room
put-requires-clause-room g c =
    let last = rw c.unwrap-pass.ensures at c.pop.ensures.some in
    room-again _ _ _ _ _ _ _ c.in_ok-cell.ensures.passes last (rw c.pop.ensures.room c.in_ok-cell.ensures.room)

pub invariant_of-result : goal.invariant_of-result
invariant_of-result g c =
    let last = rw c.unwrap-pass.ensures at c.pop.ensures.some in
    let of = last-of_cell _ c.in_ok-cell.ensures.cell c.in_ok-cell.ensures.passes _ _ last in
    grind arith

pub close-history-requires-clause-passes : goal.close-history-requires-clause-passes
close-history-requires-clause-passes g c κs within =
    let last = rw c.unwrap-pass.ensures at c.pop.ensures.some in
    let same : passes_shown c.put.new.self ≡ passes_shown c.in_ok-cell.passes = grind arith in
    rw same (new-of_cell _ c.in_ok-cell.ensures.cell c.in_ok-cell.ensures.passes)

-- nobody has called yet, so no link was asked
pub returns-in-Err-clause-handed_back : goal.returns-in-Err-clause-handed_back
returns-in-Err-clause-handed_back g c =
    let last = rw c.unwrap-pass.ensures at c.pop.ensures.some in
    let same : passes_shown c.put.new.self ≡ passes_shown c.in_ok-cell.passes = grind arith in
    let said = c.close-history.ensures in
    let passes = same ∙ started-passes _ c.in_ok-cell.ensures.cell c.in_ok-cell.ensures.passes in
    unused_links (cell_shown c.in_ok-cell.cell) c.close-history.result.0
    said.legal said.callers (λ owner few. unused_none _ _ _ _ _ passes said.mine owner (grind arith)) said.links
    ∙ ap (λ cell. cell.links) c.in_ok-cell.ensures.cell
