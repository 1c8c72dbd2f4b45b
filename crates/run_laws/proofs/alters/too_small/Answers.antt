use Rattle.run_laws.proofs.AlterReplies.{small_told, small_comes}
use Rattle.run_laws.proofs.alters.too_small.Goals as goal

pub returns-clause-tells : goal.returns-clause-tells
returns-clause-tells c = small_told c.args.form.now c.args.history.now c.requires.kind c.requires.legal

pub returns-clause-comes : goal.returns-clause-comes
returns-clause-comes c = small_comes c.args.form.now c.args.history.now c.requires.kind c.requires.legal
