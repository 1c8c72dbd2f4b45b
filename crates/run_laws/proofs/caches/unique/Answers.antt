use Rattle.run_laws.proofs.UniqueLaws.{content_within, unique, orderly_replay}
use Rattle.run_laws.proofs.caches.unique.Goals as goal

pub returns-clause-unique : goal.returns-clause-unique
returns-clause-unique c = unique c.args.form.now c.args.history.now

pub returns-clause-orderly : goal.returns-clause-orderly
returns-clause-orderly c = orderly_replay c.args.form.now c.args.history.now

pub returns-clause-content : goal.returns-clause-content
returns-clause-content c = content_within c.args.form.now c.args.history.now
