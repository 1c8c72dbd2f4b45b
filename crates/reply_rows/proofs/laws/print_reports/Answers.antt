use Rattle.reply_rows.proofs.Printed.{alter-same, queue-same, lock-same, shell-same, refusal-same}
use Rattle.reply_rows.proofs.laws.print_reports.Goals as goal

pub returns : goal.returns
returns c script vary =
    (alter-same script, queue-same script, lock-same script, shell-same script vary, refusal-same script)
