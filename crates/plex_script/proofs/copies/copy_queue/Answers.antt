use Rattle.plex_script.proofs.Imports.{rules}
use Rattle.plex_script.proofs.copies.copy_queue.Goals as goal

-- the wrong body end_is_copied_as_monitor is refused at this goal
pub returns-in-UnmonSub : goal.returns-in-UnmonSub
returns-in-UnmonSub c = search rules
