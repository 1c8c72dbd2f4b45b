use Rattle.plex_load.proofs.Imports.{no_fault}
use Rattle.plex_load.proofs.texts.data.Goals as goal

pub unreachable-requires : goal.unreachable-requires
unreachable-requires c =
    let fault = rw c.in-Err-BadName.field-0-is at c.in-Err-BadName.ensures.fault in
    no_fault 4096 c.args.text.now _ c.requires fault.1
