use Rattle.struct_machine.proofs.Imports.{arith}
use Rattle.struct_machine.proofs.KeptLaws.{filled-told, manned-told}
use Rattle.struct_machine.proofs.doing.answer.Goals as goal

pub returns-clause-of_form : goal.returns-clause-of_form
returns-clause-of_form g c = grind (arith, manned-told, filled-told)
