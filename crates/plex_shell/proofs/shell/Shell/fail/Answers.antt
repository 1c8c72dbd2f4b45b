-- The active connectors are callers.
use Rattle.plex_shell.proofs.CallerSets.{AreCallers-actives}
use Rattle.plex_shell.proofs.shell.Shell.fail.Goals as goal

pub tell-requires-clause-callers : goal.tell-requires-clause-callers
tell-requires-clause-callers c = rw c.active.ensures (AreCallers-actives _)
