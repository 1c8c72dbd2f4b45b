use Rattle.run_laws.proofs.FreshLaws.{fresh_test}
use Rattle.run_laws.proofs.caches.fresh_test.Goals as goal

pub returns : goal.returns
returns c = fresh_test c.args.form.now c.args.history.now c.requires
