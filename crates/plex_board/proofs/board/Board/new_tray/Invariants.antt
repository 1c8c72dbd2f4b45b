use Rattle.plex_board.proofs.Imports.{◌≡◌, map, replicate, None, option_map, note_shown}
use Rattle.plex_board.proofs.board.Board.new_tray.Given as goal

abbrev pub invariant-loop : goal.invariant-loop
invariant-loop g l = (map (option_map note_shown) l.slots.items ≡ replicate l.counter None)
