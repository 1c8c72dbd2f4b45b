use Rattle.plex_agent.proofs.Imports.{◌≡◌, Some, option_copied, most_asks, IsReady, CellShown, IsDeskOf, cell_on, AtWork, Asks, at_work, AgentEnd}
use Rattle.plex_agent.proofs.calls.ask_all.Given as goal

abbrev pub invariant-loop-alloc : goal.invariant-loop-alloc
invariant-loop-alloc g l = record {
  of_board : IsDeskOf l.board l.desk;
  owner : l.desk.owner ≡ l.fn.desk.owner;
  ready : IsReady (option_copied l.call.ask) l.now;
  rest : (cell : CellShown g.row.L.Denot) → cell_on l.board l.call.on ≡ Some cell
      → (after : AtWork) → Asks cell.limit cell.form.kind (option_copied l.call.ask) l.call.on
      l.now (at_work l.desk l.items.items AgentEnd.Done) after → Asks cell.limit cell.form.kind
      (option_copied l.call.ask) l.call.on l.fn.first (at_work l.fn.desk l.fn.items.items AgentEnd.Done) after;
}

abbrev pub decreases-loop-alloc : goal.decreases-loop-alloc
decreases-loop-alloc g l = most_asks l.now
