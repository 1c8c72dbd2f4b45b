use Rattle.plex_board.proofs.Imports.{◌≡◌, into_iter_items, homes_shown, AllFit, homes_gathered}
use Rattle.plex_board.proofs.ending.gather.Given as goal

abbrev pub invariant-loop-desk : goal.invariant-loop-desk
invariant-loop-desk l = record {
  fits : AllFit (into_iter_items l.desk-iterator) (homes_shown l.homes.items);
  homes : homes_gathered (into_iter_items l.desk-iterator) (homes_shown l.homes.items)
      ≡ homes_gathered (into_iter_items l.initial.desk-iterator) (homes_shown l.fn.homes.items);
}
