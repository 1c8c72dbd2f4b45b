use Rattle.block_laws.proofs.Tests.{tells_longer}
use Rattle.block_laws.proofs.blocks.tells_whatever_comes.Goals as goal

pub returns : goal.returns
returns g c more at sure conn index bit legal few = tells_longer g.E.Engine.meaning c.args.form.now
    c.args.history.now more at sure conn index bit c.requires legal few
