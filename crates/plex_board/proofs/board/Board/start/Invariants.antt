use Rattle.plex_board.proofs.Imports.{◌≡◌, ◌+◌, ◌*◌, ◌++◌, length, map, take, flat_map, into_iter_items, into_iter_len, LINKS, four_of, IsOpening}
use Rattle.plex_board.proofs.board.Board.start.Given as goal

abbrev pub invariant-loop-form : goal.invariant-loop-form
invariant-loop-form g l = record {
  opening : IsOpening l.callers l.limit l.opening;
  forms : map (λ cell. cell.form) l.opening.stations.items ≡ take l.form-index l.form-items;
  count : length l.opening.stations.items ≡ l.form-index;
  links : flat_map (λ cell. four_of cell.links) l.opening.stations.items ++ into_iter_items l.left ≡ l.fn.links.items;
  left : into_iter_len l.left + 4 * l.form-index ≡ LINKS;
}
