use Rattle.struct_cell.proofs.Imports.{pow_mono, arith}
use Rattle.struct_cell.proofs.mirror.with_bit.Goals as goal

pub overflow_add-result : goal.overflow_add-result
overflow_add-result c = grind (arith, pow_mono)
