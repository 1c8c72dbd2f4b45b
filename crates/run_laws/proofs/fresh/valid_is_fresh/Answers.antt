use Rattle.run_laws.proofs.FreshLaws.{valid_is_fresh}
use Rattle.run_laws.proofs.fresh.valid_is_fresh.Goals as goal

pub returns : goal.returns
returns c = valid_is_fresh
