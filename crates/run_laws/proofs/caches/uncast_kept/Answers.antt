use Rattle.run_laws.proofs.Pages.{uncast_kept, uncast_answered}
use Rattle.run_laws.proofs.caches.uncast_kept.Goals as goal

pub returns-clause-kept : goal.returns-clause-kept
returns-clause-kept c = uncast_kept c.args.form.now c.args.history.now c.requires

pub returns-clause-answered : goal.returns-clause-answered
returns-clause-answered c = uncast_answered c.args.form.now c.args.history.now c.requires
