use Rattle.block_laws.proofs.Tests.{tells_never, tells_past}
use Rattle.block_laws.proofs.blocks.never_tells.Goals as goal

pub returns-clause-marks : goal.returns-clause-marks
returns-clause-marks g c block at sure conn index bit legal ends low high told = tells_never g.E.Engine.meaning
    c.args.form.now c.args.history.now block c.requires legal ends at sure conn index bit low high told

pub returns-clause-past : goal.returns-clause-past
returns-clause-past g c at sure conn index bit past told = tells_past g.E.Engine.meaning c.args.form.now
    c.args.history.now at sure conn index bit c.requires past told
