use Rattle.std.proofs.Common.{sym, ap, ◌∙◌}
use Rattle.caller_slots.specs.RunShown.PlexScript.declared.transcripts.Shown.{Shown}
use Rattle.caller_check.specs.Untold.{item_past}
use Rattle.caller_check.proofs.untold.item_past.Goals as goal

pub returns-in-Word : goal.returns-in-Word
returns-in-Word c = c.word_past.ensures
    ∙ sym (ap (λ (i : Shown). item_past c.args.vector c.args.waits.now i c.args.place) c.in-Word.is)
