use Rattle.plex_agent.proofs.Imports.{◌≡◌, drop, IsDeskOf, AtWork}
use Rattle.plex_board.specs.Callers.{DepartsEach}
use Rattle.plex_agent.proofs.agent.closing.Given as goal

abbrev pub invariant-loop-number : goal.invariant-loop-number
invariant-loop-number g l = record {
  of_board : IsDeskOf l.board l.desk;
  owner : l.desk.owner ≡ l.fn.desk.owner;
  rest : (after : AtWork) → DepartsEach l.number (drop l.number l.board.cells) (record {
    desk = l.desk;
    shown = l.shown;
  }) after → DepartsEach 0 l.board.cells (record { desk = l.fn.desk; shown = l.fn.shown }) after;
}
