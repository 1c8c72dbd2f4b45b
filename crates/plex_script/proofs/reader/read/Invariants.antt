use Rattle.plex_script.proofs.Imports.{length, script_of}
use Rattle.plex_script.proofs.ReadLaws.{IsRead}
use Rattle.plex_script.proofs.reader.read.Given as goal

abbrev pub invariant-loop-rest : goal.invariant-loop-rest
invariant-loop-rest l = IsRead l.text (script_of l.draft) l.number l.rest

abbrev pub decreases-loop-rest : goal.decreases-loop-rest
decreases-loop-rest l = length l.rest
