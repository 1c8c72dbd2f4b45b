-- The active connectors are callers.
use Rattle.plex_shell.proofs.Imports.{arith}
use Rattle.plex_shell.proofs.CallerSets.{AreCallers-actives}
use Rattle.plex_shell.proofs.shell.Shell.start_rebuild.Goals as goal

pub tell-requires-clause-callers : goal.tell-requires-clause-callers
tell-requires-clause-callers c = rw c.active-members.ensures (AreCallers-actives _)

pub invariant_of-self : goal.invariant_of-self
invariant_of-self c = grind (arith, AreCallers-actives)
