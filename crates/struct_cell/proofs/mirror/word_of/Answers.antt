use Rattle.struct_cell.proofs.Imports.{arith}
use Rattle.struct_cell.proofs.Binary.{word-small, whole}
use Rattle.struct_cell.proofs.mirror.word_of.Goals as goal

pub with_bit-bits-requires-clause-bits : goal.with_bit-bits-requires-clause-bits
with_bit-bits-requires-clause-bits g c = grind (arith, word-small)

pub loop-k-preserved : goal.loop-k-preserved
loop-k-preserved g c = grind arith

pub returns : goal.returns
returns g c = whole _ c.loop-k.k c.loop-k.bits (omega arith) c.loop-k.invariant.1
