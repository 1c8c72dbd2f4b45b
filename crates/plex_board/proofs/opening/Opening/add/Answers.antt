use Rattle.plex_board.proofs.Imports.{◌≤◌, ap, sym, ◌∙◌, subst, arith, length-map}
use Rattle.plex_board.proofs.OpenLaws.{unused-calls, started-cell, more-started, more-desks, more-homes, more-empty, empty-home}
use Rattle.plex_board.proofs.{StationLaws.started-passes, HomeLaws.count-of-homes, UnusedLaws.desks-few}
use Rattle.plex_board.proofs.opening.Opening.add.Goals as goal

pub deal-requires-clause-unused : goal.deal-requires-clause-unused
deal-requires-clause-unused g c = unused-calls _ _ _ _ c.in_ok-station.ensures.passes

pub deal-requires-clause-few : goal.deal-requires-clause-few
deal-requires-clause-few g c = desks-few _ _ _ _ c.requires.opening.desks c.requires.few

pub push_reserved-requires-2 : goal.push_reserved-requires-2
push_reserved-requires-2 g c = grind (arith, count-of-homes, length-map)

pub returns-clause-opening : goal.returns-clause-opening
returns-clause-opening g c =
    let old = c.requires.opening in
    let passes = started-passes _ c.in_ok-station.ensures.cell c.in_ok-station.ensures.passes in
    let type_is = c.deal.ensures.str_type ∙ c.in_ok-station.ensures.passes_type
    ∙ sym (ap (λ cell. cell.str_type) c.in_ok-station.ensures.cell) in
    record {
      started = more-started _ _ _ c.push_reserved.ensures.items _ _ old.started
          (started-cell _ _ _ _ _ c.in_ok-station.ensures.cell c.in_ok-station.ensures.words);
      stations_room = subst (λ n. 16 ≤ n) (sym c.push_reserved.ensures.capacity) old.stations_room;
      desks = more-desks _ _ _ c.push_reserved.ensures.items _ _ _ _ old.desks passes c.deal.ensures.desks;
      begun = record {
        homes = more-homes _ _ _ c.push_reserved.ensures.items _ _ _ c.push_reserved-2.ensures.items _ old.begun.homes
            (empty-home _ _ _ type_is c.deal.ensures.empty (rw c.deal.ensures.room c.in_ok-station.ensures.room));
        empty = more-empty _ _ _ c.push_reserved.ensures.items _ _ _ c.push_reserved-2.ensures.items old.begun.empty
            c.deal.ensures.empty;
        homes_room = subst (λ n. 16 ≤ n) (sym c.push_reserved-2.ensures.capacity) old.begun.homes_room;
        no_histories = old.begun.no_histories;
        history_room = old.begun.history_room;
        no_links = old.begun.no_links;
        link_room = old.begun.link_room;
        no_spare = old.begun.no_spare;
        spare_room = old.begun.spare_room;
      };
    }
