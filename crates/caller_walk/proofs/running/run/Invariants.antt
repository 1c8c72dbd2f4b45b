use Rattle.std.proofs.Common.{length}
use Rattle.std.specs.Option.{option_copied}
use Rattle.caller_slots.specs.Slots.{Place}
use Rattle.caller_walk.specs.declared.counts.Count.{Count}
use Rattle.caller_walk.specs.Heard.{left_at}
use Rattle.caller_walk.specs.Running.{GoesThrough, BreaksOff, place_of, run_from}
use Rattle.caller_walk.proofs.running.run.Given as goal

abbrev pub invariant-loop-kind : goal.invariant-loop-kind
invariant-loop-kind l = record {
  through : (last : Count) (place : Place)
      → GoesThrough l.items (run_from l.kind (option_copied l.line) l.on l.now (place_of l.conn l.history l.spot))
      l.count last place
      → GoesThrough l.items (run_from l.kind (option_copied l.line) l.on l.fn.first
      (place_of l.conn l.history l.fn.spot)) l.fn.count last place;
  breaks : BreaksOff (run_from l.kind (option_copied l.line) l.on l.now (place_of l.conn l.history l.spot))
      → BreaksOff (run_from l.kind (option_copied l.line) l.on l.fn.first (place_of l.conn l.history l.fn.spot));
}

abbrev pub decreases-loop-kind : goal.decreases-loop-kind
decreases-loop-kind l = length (left_at l.conn l.history l.spot.next)
