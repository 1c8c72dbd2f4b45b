-- The callers before this one have their queues.
use Rattle.std.specs.Prelude.{All}
use Rattle.history_check.specs.Queues.{IsRising}
use Rattle.plex_check.specs.Checks.{AreQueuesOf}
use Rattle.plex_check.proofs.queues.caller_queues.Given as goal

abbrev pub invariant-loop-number : goal.invariant-loop-number
invariant-loop-number l =
    AreQueuesOf l.printed.histories l.on l.vector l.printed.transcripts l.number l.queues.items
    × All IsRising l.queues.items
