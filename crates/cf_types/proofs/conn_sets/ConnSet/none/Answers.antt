use Rattle.cf_types.proofs.ConnSetLaws.{members-zero}
use Rattle.cf_types.proofs.conn_sets.ConnSet.none.Goals as goal

pub returns : goal.returns
returns c = members-zero
