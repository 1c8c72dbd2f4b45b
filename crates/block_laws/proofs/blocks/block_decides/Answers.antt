use Rattle.block_laws.proofs.Fits.{block_legal, block_fits}
use Rattle.block_laws.proofs.blocks.block_decides.Goals as goal

pub returns : goal.returns
returns g c block = (
  λ legal. block_fits g.E.Engine.meaning c.args.form.now c.args.history.now block legal,
  λ both. block_legal g.E.Engine.meaning c.args.form.now c.args.history.now block c.requires both.0 both.1,
)
