use Rattle.plex_run.proofs.Imports.{◌≤◌, ◌<◌, length, refl, arith, codes, script_limit, HasNoReport}
use Rattle.plex_run.proofs.{TextLaws.refused_ends, TextLaws.long_ends, CheckingLaws.check_fair, CheckingLaws.split_fits, CheckingLaws.unsplit_fits, CheckingLaws.unsplit_told, CheckingLaws.fault_told, CheckingLaws.script_too_long, CheckingLaws.check_ends}
use Rattle.plex_run.proofs.checking.checked_text.Goals as goal

pub returns-in_default-clause-ends : goal.returns-in_default-clause-ends
returns-in_default-clause-ends g c =
    let none : HasNoReport c.args.text.now = c.cut.ensures.none (grind (arith, c.in_default)) in
    refused_ends 0 (codes "NOREPORT") (check_fair c.never_both.ensures)
    (unsplit_fits c.args.text.now c.requires.text none) (unsplit_told c.args.text.now none)
    c.refused.ensures.refused c.refused.ensures.no_memory c.refused.ensures.statuses

pub returns-then-is_long-clause-ends : goal.returns-then-is_long-clause-ends
returns-then-is_long-clause-ends g c =
    let long : script_limit < length c.in-Some.part.now = c.is_long.ensures.long c.if-is_long.true in
    long_ends script_limit refl (script_too_long c.args.text.now c.in-Some.part.now c.in-Some.rest.now
    c.requires.text c.in-Some.ensures.split long) (rw c.script_too_long.ensures at c.say.ensures.gains)

pub returns-in-Err-Script-clause-ends : goal.returns-in-Err-Script-clause-ends
returns-in-Err-Script-clause-ends g c =
    let low : length c.in-Some.part.now ≤ script_limit = c.is_long.ensures.fits c.if-is_long.false in
    refused_ends c.in-Err-Script.line c.why_text.result.now (check_fair c.never_both.ensures)
    (split_fits c.args.text.now c.in-Some.part.now c.in-Some.rest.now c.requires.text c.in-Some.ensures.split low)
    (fault_told c.args.text.now c.in-Some.part.now c.in-Some.rest.now c.in-Some.ensures.split
    c.in-Err-Script.field-0-is c.in-Err-Script.ensures.fault c.why_text.ensures)
    c.refused-in-Err-Script.ensures.refused c.refused-in-Err-Script.ensures.no_memory c.refused-in-Err-Script.ensures.statuses

pub returns-clause-ends : goal.returns-clause-ends
returns-clause-ends g c =
    let low : length c.in-Some.part.now ≤ script_limit = c.is_long.ensures.fits c.if-is_long.false in
    check_ends c.args.text.now c.in-Some.part.now c.in-Some.rest.now _ _ c.in-Some.ensures.split
    c.in-Ok.ensures.judged c.told.ensures.done c.told.ensures.marked c.told.ensures.front c.told.ensures.no_memory
    c.told.ensures.statuses c.one_script.ensures c.never_both.ensures c.requires.text low
