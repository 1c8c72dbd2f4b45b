use Rattle.cf_types.proofs.Imports.{rules}
use Rattle.cf_types.proofs.adjuncts.Adjunct.bytes.Goals as goal

-- the wrong body adjunct_without_its_end is refused at this goal
pub returns : goal.returns
returns c = search rules
