use Rattle.plex_script.proofs.Spaced.{line_more}
use Rattle.plex_script.proofs.printer.put_facilities.Goals as goal

pub loop-facility-preserved : goal.loop-facility-preserved
loop-facility-preserved c = line_more _ _ _ _ _ _ _ _ c.loop-facility-test.true
    c.in_ok-put_facility_line.ensures c.in_ok-push.ensures.items c.loop-facility.invariant
