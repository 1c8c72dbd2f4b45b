use Rattle.block_laws.proofs.Judged.{block_next}
use Rattle.block_laws.proofs.steps.block_judged.Goals as goal

pub returns : goal.returns
returns g c marks entry ask none is =
    block_next g.E.Engine.meaning c.args.form.now entry ask is c.args.history.now marks c.requires none
