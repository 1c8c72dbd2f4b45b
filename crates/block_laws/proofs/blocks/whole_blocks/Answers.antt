use Rattle.block_laws.proofs.Fits.{legal_front}
use Rattle.block_laws.proofs.blocks.whole_blocks.Goals as goal

pub returns : goal.returns
returns g c more legal = legal_front g.E.Engine.meaning c.args.form.now c.args.history.now more c.requires legal
