use Rattle.cf_types.proofs.Imports.{arith, drop-append_seam, length-append, length-replicate}
use Rattle.cf_types.proofs.adjuncts.parse_adjunct.Goals as goal

pub invariant_of-result : goal.invariant_of-result
invariant_of-result c = grind (arith, length-append, length-replicate, drop-append_seam)
