use Rattle.plex_run.proofs.Imports.{arith}
use Rattle.plex_run.proofs.Written.{broken_off}
use Rattle.plex_run.proofs.running.written.Goals as goal

pub returns-in-Err-NoMemory-clause-broken_off : goal.returns-in-Err-NoMemory-clause-broken_off
returns-in-Err-NoMemory-clause-broken_off g c = grind (arith, broken_off)
