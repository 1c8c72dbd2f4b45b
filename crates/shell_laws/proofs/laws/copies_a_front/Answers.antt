use Rattle.shell_laws.proofs.Imports.{arith}
use Rattle.shell_laws.proofs.MemberLaws.{manned-replay}
use Rattle.shell_laws.proofs.FillingLaws.{filled-replay, front-loss, front-step}
use Rattle.shell_laws.proofs.laws.copies_a_front.Goals as goal

pub returns : goal.returns
returns g c = grind (arith, front-loss, front-step, manned-replay, filled-replay)
