use Rattle.plex_run.proofs.Imports.{◌≡◌, drop, find, enumerate_from, is_full_at}
use Rattle.plex_run.proofs.full.full_structure.Given as goal

abbrev pub invariant-loop-place : goal.invariant-loop-place
invariant-loop-place l = find (λ place. is_full_at l.transcripts place.0) (enumerate_from l.place
    (drop l.place l.structures)) ≡ find (λ place. is_full_at l.transcripts place.0) (enumerate_from 0 l.structures)
