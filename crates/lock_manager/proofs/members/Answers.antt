-- The answer is told at the seat of the member that leaves last.
use Rattle.std.proofs.Common.{rules, ◌≡◌}
use Rattle.plex_seat.specs.Answers.{HasHeard}
use Rattle.plex_seat.proofs.OutcomeLaws.{seat_answer}
use Rattle.lock_manager.specs.Members.{locks, recoverer}
use Rattle.lock_manager.proofs.members.Goals as goal

pub returns : goal.returns
returns g c =
    let owner : c.in-Some.b.desk.owner ≡ recoverer = search rules in
    let heard : HasHeard c.work-failed.new.b c.in_ok-read.field-0 = search rules in
    record {
      outcome = seat_answer c.in_ok-plex.plex c.args.script.now c.in-Some-close.histories.items locks recoverer
          c.in-Some.b c.work-failed.new.b c.in_ok-read.field-0 c.in-Some.ensures.seat.0 c.in-Some.ensures.seat.1 owner
          c.work-failed.ensures.same.1 c.in_ok-plex.ensures.forms c.leave.new.desks.items c.leave-2.new.desks.items
          c.in-Some-close.ensures.closed c.leave-2.ensures.desks c.leave-2.ensures.own heard c.in-Some.ensures.there;
    }
