use Rattle.report_read.proofs.OneLaws.{one_report}
use Rattle.report_read.proofs.laws.one_report.Goals as goal

pub returns : goal.returns
returns c text h p k q = one_report c.args.script.now c.requires.keeps text c.args.one.now c.args.other.now h p k q
