use Rattle.plex_board.proofs.Imports.{◌≡◌, vec_len, each_with, home_with, homes_shown, Fits}
use Rattle.plex_board.proofs.ending.bring_home.Given as goal

abbrev pub invariant-loop-place : goal.invariant-loop-place
invariant-loop-place l = record {
  fits : Fits l.places.items (homes_shown l.homes.items);
  row : each_with home_with l.places.items (homes_shown l.homes.items)
      ≡ each_with home_with l.fn.places.items (homes_shown l.fn.homes.items);
}

abbrev pub decreases-loop-place : goal.decreases-loop-place
decreases-loop-place l = vec_len l.places
