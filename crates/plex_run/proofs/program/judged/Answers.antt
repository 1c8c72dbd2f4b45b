use Rattle.plex_run.proofs.Imports.{◌≡◌, wires, why_word}
use Rattle.plex_run.proofs.OutcomeLaws.{fault_told, fits, run_ends, runs_fair}
use Rattle.plex_run.proofs.{RunnableLaws.runnable, TextLaws.refused_ends}
use Rattle.plex_run.proofs.program.judged.Goals as goal

pub returns-in-Err-Script-clause-ends : goal.returns-in-Err-Script-clause-ends
returns-in-Err-Script-clause-ends g c =
    let spelled : c.why_text.result.now ≡ why_word c.in-Err-Script.why =
    rw c.in-Err-Script.field-0-is at c.why_text.ensures in
    refused_ends c.in-Err-Script.line c.why_text.result.now
    (runs_fair (wires g.L.Link.calls g.L.Link.downs g.L.Link.faults c.args.links.now.items c.args.links.now.items)
    c.args.way c.never_both.ensures) (fits c.args.text.now c.requires.text)
    (fault_told _ c.in-Err-Script.field-0-is c.in-Err-Script.ensures.fault spelled) (rw
    c.in-Err-Script.field-0-is at c.refused.ensures.refused) c.refused.ensures.no_memory c.refused.ensures.statuses

pub reported-requires-clause-script : goal.reported-requires-clause-script
reported-requires-clause-script g c κs within = runnable c.in-Ok.script c.well_formed-2.ensures

pub returns-clause-ends : goal.returns-clause-ends
returns-clause-ends g c = run_ends _ _ _ _ _ _ c.one_script.ensures c.never_both.ensures c.valid_is_fresh.ensures
    c.within_script.ensures c.only_reading.ensures c.requires.text c.in-Ok.ensures.script c.reported.ensures.ends
    c.reported.ensures.statuses
