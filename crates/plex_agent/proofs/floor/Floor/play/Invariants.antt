use Rattle.plex_agent.proofs.Imports.{◌+◌, ◌-◌, drop, length, connectors, Floor, Plays, PlaysLines, ClosesAll, IsFloorOf, conns_from}
use Rattle.plex_agent.proofs.floor.Floor.play.Given as goal

abbrev pub invariant-loop-line : goal.invariant-loop-line
invariant-loop-line g l = record {
  fits : IsFloorOf l.board l.self;
  rest : (after : Floor) → PlaysLines l.board (drop l.line-index l.script.lines) l.self after
      → PlaysLines l.board l.script.lines l.fn.self after;
}

abbrev pub invariant-loop-before : goal.invariant-loop-before
invariant-loop-before g l = record {
  fits : IsFloorOf l.board l.self;
  rest : (after : Floor) → ClosesAll l.board (conns_from (l.before + 1) (length l.script.connectors - l.before))
      l.self after → Plays l.board l.script.lines (connectors l.script) after;
}
