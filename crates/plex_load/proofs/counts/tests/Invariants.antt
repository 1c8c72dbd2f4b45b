use Rattle.plex_load.proofs.Imports.{◌≡◌, sum_by, take, tests_of}
use Rattle.plex_load.proofs.counts.tests.Given as goal

abbrev pub invariant-loop-transcript : goal.invariant-loop-transcript
invariant-loop-transcript l = l.count ≡ sum_by tests_of (take l.transcript-index l.transcripts)
