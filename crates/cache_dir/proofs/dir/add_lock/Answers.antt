use Rattle.cache_dir.proofs.Imports.{◌∙◌, insert_entry-new}
use Rattle.cache_dir.proofs.dir.add_lock.Goals as goal

pub returns : goal.returns
returns c = c.in_ok-insert.ensures.entries ∙ insert_entry-new _ c.args.locks.now _ _ c.requires
