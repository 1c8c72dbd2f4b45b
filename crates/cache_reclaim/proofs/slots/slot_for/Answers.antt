use Rattle.cache_reclaim.proofs.Imports.{arith}
use Rattle.cache_reclaim.proofs.SlotLaws.{slot_named, slot_there}
use Rattle.cache_reclaim.proofs.slots.slot_for.Goals as goal

pub returns-in-Some-clause-there : goal.returns-in-Some-clause-there
returns-in-Some-clause-there c = slot_there _ _ _ c.requires.tied c.args.name _ (grind arith)

pub returns-in-Some-clause-apart : goal.returns-in-Some-clause-apart
returns-in-Some-clause-apart c = slot_named _ _ _ c.requires.tied c.args.name _ (grind arith)
