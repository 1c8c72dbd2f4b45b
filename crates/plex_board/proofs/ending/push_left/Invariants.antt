use Rattle.plex_board.proofs.Imports.{◌≡◌, ◌+◌, ◌≤◌, ◌++◌, vec_len, vec_capacity, into_iter_items, into_iter_len}
use Rattle.plex_board.proofs.ending.push_left.Given as goal

abbrev pub invariant-loop-link : goal.invariant-loop-link
invariant-loop-link g l = record {
  items : l.links.items ++ into_iter_items l.link-iterator ≡ l.fn.links.items ++ into_iter_items l.fn.left;
  room : vec_len l.links + into_iter_len l.link-iterator ≤ vec_capacity l.links;
  capacity : vec_capacity l.links ≡ vec_capacity l.fn.links;
}
