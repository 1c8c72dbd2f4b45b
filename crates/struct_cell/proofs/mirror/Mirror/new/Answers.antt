use Rattle.struct_cell.proofs.Imports.{arith}
use Rattle.struct_cell.proofs.MirrorLaws.{words_none}
use Rattle.struct_cell.proofs.mirror.Mirror.new.Goals as goal

pub returns-clause-words : goal.returns-clause-words
returns-clause-words c = grind (arith, words_none)
