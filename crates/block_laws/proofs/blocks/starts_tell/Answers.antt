use Rattle.block_laws.proofs.Tests.{tells_none}
use Rattle.block_laws.proofs.blocks.starts_tell.Goals as goal

pub returns : goal.returns
returns g c sure conn index bit = tells_none g.E.Engine.meaning c.args.form.now c.args.history.now sure conn index bit
