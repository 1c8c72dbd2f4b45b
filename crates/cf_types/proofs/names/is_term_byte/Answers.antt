use Rattle.cf_types.proofs.Imports.{rules}
use Rattle.cf_types.proofs.names.is_term_byte.Goals as goal

-- the wrong body dash_is_no_term_character is refused at this goal
pub returns-else-byte-eq95 : goal.returns-else-byte-eq95
returns-else-byte-eq95 c = search rules
