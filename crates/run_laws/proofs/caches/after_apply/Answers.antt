use Rattle.run_laws.proofs.CacheApplyLaws.{applied_fresh, applied_kept, applied_unique}
use Rattle.run_laws.proofs.caches.after_apply.Goals as goal

pub returns-clause-fresh : goal.returns-clause-fresh
returns-clause-fresh c = applied_fresh

pub returns-clause-kept : goal.returns-clause-kept
returns-clause-kept c = applied_kept

pub returns-clause-unique : goal.returns-clause-unique
returns-clause-unique c = applied_unique
