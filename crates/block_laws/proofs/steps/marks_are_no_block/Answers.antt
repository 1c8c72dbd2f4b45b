use Rattle.block_laws.proofs.Judged.{marks_open}
use Rattle.block_laws.proofs.steps.marks_are_no_block.Goals as goal

pub returns : goal.returns
returns g c marks none whole =
    marks_open g.E.Engine.meaning c.args.form.now c.args.history.now marks c.requires none whole
