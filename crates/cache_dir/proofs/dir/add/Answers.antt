use Rattle.cache_dir.proofs.Imports.{◌∙◌, insert_entry-new}
use Rattle.cache_dir.proofs.dir.add.Goals as goal

pub returns : goal.returns
returns c = c.in_ok-insert.ensures.entries ∙ insert_entry-new _ c.args.rows.now _ _ c.requires
