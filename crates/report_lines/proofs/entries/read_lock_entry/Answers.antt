use Rattle.report_lines.proofs.KindLaws.{is-lock}
use Rattle.report_lines.proofs.entries.read_lock_entry.Goals as goal

pub read_entry-requires-clause-kind : goal.read_entry-requires-clause-kind
read_entry-requires-clause-kind c = is-lock
