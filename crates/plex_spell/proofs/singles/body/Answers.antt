use Rattle.plex_spell.proofs.TextLaws.{no_fault}
use Rattle.plex_spell.proofs.singles.body.Goals as goal

pub returns-in-Err-BadName : goal.returns-in-Err-BadName
returns-in-Err-BadName c =
    let fault = rw c.in-Err-BadName.field-0-is at c.in-Err-BadName.ensures.fault in
    absurd (no_fault 4096 c.args.text.now _ c.requires fault.1)
