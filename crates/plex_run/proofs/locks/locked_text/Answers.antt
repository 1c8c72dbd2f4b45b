use Rattle.plex_run.proofs.LocksLaws.{fault_told, not_words_told, locks_fair, locks_end}
use Rattle.plex_run.proofs.{TextLaws.refused_ends, OutcomeLaws.fits}
use Rattle.plex_run.proofs.locks.locked_text.Goals as goal

pub returns-in-Err-Fault-clause-ends : goal.returns-in-Err-Fault-clause-ends
returns-in-Err-Fault-clause-ends g c = refused_ends _ _ (locks_fair c.one_script.ensures c.never_both.ensures)
    (fits c.args.text.now c.requires.text) (fault_told _ c.in-Err-Fault.field-0-is c.in-Err-Fault.ensures.untaken
    c.why_text.ensures) c.refused.ensures.refused c.refused.ensures.no_memory c.refused.ensures.statuses

pub returns-in-Err-NotWords-clause-ends : goal.returns-in-Err-NotWords-clause-ends
returns-in-Err-NotWords-clause-ends g c = refused_ends _ _ (locks_fair c.one_script.ensures c.never_both.ensures)
    (fits c.args.text.now c.requires.text) (not_words_told _
    c.in-Err-NotWords.field-0-is c.in-Err-NotWords.ensures.untaken) c.refused-in-Err-NotWords.ensures.refused
    c.refused-in-Err-NotWords.ensures.no_memory c.refused-in-Err-NotWords.ensures.statuses

pub returns-clause-ends : goal.returns-clause-ends
returns-clause-ends g c = locks_end c.in-Ok-locked.told c.one_script.ensures c.never_both.ensures c.requires.text
    c.in-Ok.ensures.taken c.in-Ok-locked.ensures c.written.ensures.done
    c.written.ensures.front c.written.ensures.no_memory c.written.ensures.statuses
