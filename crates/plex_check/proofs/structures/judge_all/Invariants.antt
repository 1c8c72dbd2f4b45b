-- The structures before this one have their tables.
use Rattle.caller_check.specs.Tables.{rows_of}
use Rattle.plex_check.specs.Checks.{AreTables}
use Rattle.plex_check.proofs.structures.judge_all.Given as goal

abbrev pub invariant-loop-number : goal.invariant-loop-number
invariant-loop-number l = AreTables l.script l.printed l.number (rows_of l.tables.items)
