use Rattle.plex_load.proofs.Imports.{◌≡◌, first_number, lines_of_first}
use Rattle.plex_load.proofs.making.lines.Given as goal

-- the lines of the connectors before this one stand there, and the number goes on from the last of them
abbrev pub invariant-loop-caller : goal.invariant-loop-caller
invariant-loop-caller l = record {
  number : l.number ≡ first_number l.n l.caller;
  lines : l.lines.items ≡ lines_of_first l.n l.caller;
}
