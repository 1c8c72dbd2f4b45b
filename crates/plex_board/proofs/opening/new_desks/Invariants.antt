use Rattle.plex_board.proofs.Imports.{◌≡◌, map, range_with_len, bare_desk}
use Rattle.plex_board.proofs.opening.new_desks.Given as goal

abbrev pub invariant-loop-owner : goal.invariant-loop-owner
invariant-loop-owner l = (l.desks.items ≡ map bare_desk (range_with_len 0 l.owner))
