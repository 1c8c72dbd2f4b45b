use Rattle.struct_machine.proofs.Imports.{arith, and_left, and_right}
use Rattle.struct_machine.proofs.AskingLaws.{asked_both, marks_both}
use Rattle.struct_machine.proofs.asking.ask_links.Goals as goal
use Rattle.struct_machine.proofs.asking.ask_links.Goals.{else-asked-via-then-asked+else-is_some, else-asked-via-else-asked}

pub returns-clause-asked : goal.returns-clause-asked
returns-clause-asked g c =
    grind (arith, else-asked-via-then-asked+else-is_some, and_right, else-asked-via-else-asked, and_left, asked_both)

pub returns-clause-marks : goal.returns-clause-marks
returns-clause-marks g c =
    grind (arith, else-asked-via-then-asked+else-is_some, and_right, else-asked-via-else-asked, and_left, marks_both)
