use Rattle.run_laws.proofs.FreshLaws.{fresh_copy, copy_as_read}
use Rattle.run_laws.proofs.caches.fresh_copy.Goals as goal

pub returns-clause-fresh : goal.returns-clause-fresh
returns-clause-fresh c = fresh_copy c.args.form.now c.args.history.now c.requires

pub returns-clause-as_read : goal.returns-clause-as_read
returns-clause-as_read c = copy_as_read c.args.form.now c.args.history.now c.requires
