-- The members that are left are callers.
use Rattle.plex_shell.proofs.Imports.{arith}
use Rattle.plex_shell.proofs.CallerSets.{AreCallers-without}
use Rattle.plex_shell.proofs.shell.Shell.leave_rebuild.Goals as goal

pub go_on-requires-clause-kept : goal.go_on-requires-clause-kept
go_on-requires-clause-kept c = grind (arith, AreCallers-without)
