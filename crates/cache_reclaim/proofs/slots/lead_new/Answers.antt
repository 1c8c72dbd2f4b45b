use Rattle.cache_reclaim.proofs.Imports.{◌∙◌, insert_entry-new}
use Rattle.cache_reclaim.proofs.slots.lead_new.Goals as goal

pub returns : goal.returns
returns c = c.in_ok-insert.ensures.entries ∙ insert_entry-new _ c.args.names.now _ _ c.requires
