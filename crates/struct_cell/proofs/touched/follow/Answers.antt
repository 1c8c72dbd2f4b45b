use Rattle.struct_cell.proofs.Imports.{arith}
use Rattle.struct_cell.proofs.MirrorLaws.{words_gained}
use Rattle.struct_cell.proofs.touched.follow.Goals as goal

pub returns-then-is_all-clause-words : goal.returns-then-is_all-clause-words
returns-then-is_all-clause-words g c = grind arith

pub returns-clause-words : goal.returns-clause-words
returns-clause-words g c = grind (arith, words_gained)
