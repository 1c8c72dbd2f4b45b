use Rattle.plex_agent.proofs.Imports.{◌≡◌, drop, IsDeskOf, AtWork, lines_by, no_items}
use Rattle.plex_board.specs.Callers.{DoesLines}
use Rattle.plex_agent.proofs.agent.serve.Given as goal

abbrev pub invariant-loop-line : goal.invariant-loop-line
invariant-loop-line g l = record {
  of_board : IsDeskOf l.board l.desk;
  owner : l.desk.owner ≡ l.fn.desk.owner;
  rest : (after : AtWork) → DoesLines
      l.board (lines_by l.fn.desk.owner (drop l.line-index l.lines)) (record { desk = l.desk; shown = l.shown }) after
      → DoesLines l.board (lines_by l.fn.desk.owner l.lines) (record { desk = l.fn.desk; shown = no_items }) after;
}
