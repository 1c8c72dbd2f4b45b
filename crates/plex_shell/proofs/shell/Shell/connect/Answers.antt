-- The other active connectors are callers.
use Rattle.plex_shell.proofs.CallerSets.{AreCallers-other_actives}
use Rattle.plex_shell.proofs.shell.Shell.connect.Goals as goal

pub tell-requires-clause-callers : goal.tell-requires-clause-callers
tell-requires-clause-callers c = rw (c.without-others.ensures, c.active.ensures) (AreCallers-other_actives _ _)
