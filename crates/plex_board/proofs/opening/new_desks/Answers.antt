use Rattle.plex_board.proofs.DealLaws.{desk-more}
use Rattle.plex_board.proofs.opening.new_desks.Goals as goal

pub loop-owner-preserved : goal.loop-owner-preserved
loop-owner-preserved c = desk-more c.loop-owner.desks.items _ c.loop-owner.owner
    c.in_ok-bare_desk.field-0 c.in_ok-push.ensures.items c.loop-owner.invariant c.in_ok-bare_desk.ensures
