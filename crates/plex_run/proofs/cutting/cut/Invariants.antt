use Rattle.plex_run.proofs.Imports.{length}
use Rattle.plex_run.proofs.CuttingLaws.{IsAt}
use Rattle.plex_run.proofs.cutting.cut.Given as goal

-- the lines before what is left aren't the word
abbrev pub invariant-loop-place : goal.invariant-loop-place
invariant-loop-place l = IsAt l.text l.at l.rest

abbrev pub decreases-loop-place : goal.decreases-loop-place
decreases-loop-place l = length l.rest
