use Rattle.report_fronts.proofs.EntryLaws.{entries_free, items_free}
use Rattle.report_fronts.proofs.FreeLaws.{reports_free}
use Rattle.report_fronts.proofs.TextLaws.{first_unread}
use Rattle.report_fronts.proofs.laws.first_unread.Goals as goal

pub returns : goal.returns
returns c from count lines left at stuck = first_unread c.args.script.now (reports_free c.args.script.now
    c.requires (entries_free c.args.script.now c.requires) (items_free c.args.script.now c.requires))
    c.args.text.now from count lines left at stuck
