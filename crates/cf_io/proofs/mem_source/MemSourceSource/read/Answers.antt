use Rattle.cf_io.proofs.Imports.{arith, ◌≡◌, ◌≤◌, length-drop, common_steps}
use Rattle.cf_io.proofs.Pieces.{drop-read}
use Rattle.cf_io.proofs.mem_source.MemSourceSource.read.Goals as goal

pub returns-then-count-gt0-clause-given : goal.returns-then-count-gt0-clause-given
returns-then-count-gt0-clause-given c = grind (arith, length-drop, common_steps, drop-read)
