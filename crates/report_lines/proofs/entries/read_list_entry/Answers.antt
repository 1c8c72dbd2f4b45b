use Rattle.report_lines.proofs.KindLaws.{is-list}
use Rattle.report_lines.proofs.entries.read_list_entry.Goals as goal

pub read_entry-requires-clause-kind : goal.read_entry-requires-clause-kind
read_entry-requires-clause-kind c = is-list
