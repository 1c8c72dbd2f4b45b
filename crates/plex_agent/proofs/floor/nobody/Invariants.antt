use Rattle.plex_agent.proofs.Imports.{◌≡◌, replicate, None}
use Rattle.plex_agent.proofs.floor.nobody.Given as goal

abbrev pub invariant-loop : goal.invariant-loop
invariant-loop l = l.last.items ≡ replicate l.counter None
