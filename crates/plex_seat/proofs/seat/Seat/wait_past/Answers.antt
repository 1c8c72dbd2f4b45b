-- What was seen at each look adds up.
use Rattle.plex_seat.proofs.Imports.{rules}
use Rattle.plex_seat.proofs.DeskLaws.{seen_more}
use Rattle.plex_seat.proofs.seat.Seat.wait_past.Goals as goal

pub returns-then-take_note-call-clause-later : goal.returns-then-take_note-call-clause-later
returns-then-take_note-call-clause-later g c = seen_more c.args.self.now
    c.loop.self c.take_note.new.self c.loop.invariant.same c.loop.invariant.later c.take_note.ensures.later

pub loop-preserved : goal.loop-preserved
loop-preserved g c = record {
  same = search rules;
  later = seen_more c.args.self.now c.loop.self c.take_note.new.self c.loop.invariant.same c.loop.invariant.later
      c.take_note.ensures.later;
  missed = search rules;
}
