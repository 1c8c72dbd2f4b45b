use Rattle.cf_types.proofs.ConnSetLaws.{length-members}
use Rattle.cf_types.proofs.conn_sets.ConnSet.len.Goals as goal

pub returns : goal.returns
returns c = rw (← c.self.view_is) (length-members c.self.inside.0 c.self.invariant)
