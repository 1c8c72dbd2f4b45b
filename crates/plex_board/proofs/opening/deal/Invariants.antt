use Rattle.plex_board.proofs.Imports.{◌≡◌, ◌<◌, ◌≤◌, ℕ, [], length, get_or, All, STRUCTURES, passes_shown, type_of_passes, room_of, DeskShown, each_with, desk_with}
use Rattle.plex_board.proofs.opening.deal.Given as goal

abbrev pub invariant-loop-pass : goal.invariant-loop-pass
invariant-loop-pass l = record {
  owner : l.owner ≡ length (passes_shown l.home);
  desks : each_with desk_with (passes_shown l.home) l.desks.items
      ≡ each_with desk_with (passes_shown l.fn.home) l.fn.desks.items;
  unused : All (λ pass. pass.calls ≡ []) (passes_shown l.home);
  count : length l.desks.items ≡ length l.fn.desks.items;
  within : l.owner ≤ length l.fn.desks.items;
  few : (k : ℕ) (desk : DeskShown) → k < l.owner → length (get_or l.desks.items k desk).passes < STRUCTURES;
  str_type : type_of_passes l.home ≡ type_of_passes l.fn.home;
  room : room_of l.home ≡ room_of l.fn.home;
}

abbrev pub decreases-loop-pass : goal.decreases-loop-pass
decreases-loop-pass l = l.owner
