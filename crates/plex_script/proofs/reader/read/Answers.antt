use Rattle.plex_script.proofs.Imports.{arith, rules}
use Rattle.plex_script.proofs.ReadLaws.{IsRead-more}
use Rattle.plex_script.proofs.reader.read.Goals as goal

pub loop-rest-preserved : goal.loop-rest-preserved
loop-rest-preserved c = grind (arith, IsRead-more)

pub returns-in-Err-clause-fault : goal.returns-in-Err-clause-fault
returns-in-Err-clause-fault c = search rules
