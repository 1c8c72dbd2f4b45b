use Rattle.plex_load.proofs.Imports.{◌≡◌, ◌++◌, flat_map, line_text, calls_lines}
use Rattle.plex_load.proofs.summing.put_callers.Given as goal

-- the lines of the connectors before this one stand there
abbrev pub invariant-loop-caller : goal.invariant-loop-caller
invariant-loop-caller l = l.text.items ≡ l.initial.text.items ++ flat_map line_text (calls_lines l.histories l.caller)
