use Rattle.cache_reclaim.proofs.Imports.{sym, arith}
use Rattle.cache_reclaim.proofs.SlotLaws.{free_found, not_empty}
use Rattle.cache_reclaim.proofs.slots.free_slot.Goals as goal

pub returns-in-Some : goal.returns-in-Some
returns-in-Some c = free_found _ _ _ c.requires.unique c.requires.free c.requires.some (sym c.in-Some.ensures)

pub returns-in-None : goal.returns-in-None
returns-in-None c = absurd (not_empty c.args.slots.now.entries (omega (arith, c.requires.some)) (sym c.in-None.ensures))
