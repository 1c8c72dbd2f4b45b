use Rattle.block_laws.proofs.Tests.{tells_now}
use Rattle.block_laws.proofs.blocks.tells_at_the_end.Goals as goal

pub returns : goal.returns
returns g c block sure conn index bit legal ends =
    tells_now g.E.Engine.meaning c.args.form.now c.args.history.now block c.requires legal ends sure conn index bit
