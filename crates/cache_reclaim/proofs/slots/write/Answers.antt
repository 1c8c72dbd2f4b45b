use Rattle.cache_reclaim.proofs.SlotLaws.{put_written}
use Rattle.cache_reclaim.proofs.slots.write.Goals as goal

pub returns-clause-entries : goal.returns-clause-entries
returns-clause-entries c = put_written c.put.result _ _ _ _ _ c.requires c.put.ensures.succeeds c.put.ensures.entries
