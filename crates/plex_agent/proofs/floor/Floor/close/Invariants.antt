use Rattle.plex_agent.proofs.Imports.{◌≡◌, ◌++◌, Some, drop, replicate}
use Rattle.plex_agent.proofs.PlayLaws.{HearsBefore}
use Rattle.plex_agent.proofs.floor.Floor.close.Given as goal

abbrev pub invariant-loop-place : goal.invariant-loop-place
invariant-loop-place g l = HearsBefore l.board l.fn.self l.conn l.place l.self

abbrev pub invariant-loop-last : goal.invariant-loop-last
invariant-loop-last g l = l.last-items ≡ replicate l.last-index (Some l.conn) ++ drop l.last-index l.initial.last-items
