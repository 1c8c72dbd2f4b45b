use Rattle.plex_agent.proofs.Imports.{◌≢◌, take, All, AgentEnd, want}
use Rattle.plex_agent.proofs.in_turn.first_broken.Given as goal

abbrev pub invariant-loop-place : goal.invariant-loop-place
invariant-loop-place l = All (λ transcript. transcript.end ≢ AgentEnd.NoMemory want) (take l.place l.transcripts)
