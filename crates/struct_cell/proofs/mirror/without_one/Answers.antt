use Rattle.struct_cell.proofs.Imports.{w32, bit_at_clear_same, bit_at_clear_other}
use Rattle.struct_cell.proofs.mirror.without_one.Goals as goal

pub returns-clause-here : goal.returns-clause-here
returns-clause-here c = bit_at_clear_same w32 c.args.bits c.args.place c.requires

pub returns-clause-others : goal.returns-clause-others
returns-clause-others c = λ k less apart. bit_at_clear_other w32 c.args.bits c.args.place c.requires k less apart
