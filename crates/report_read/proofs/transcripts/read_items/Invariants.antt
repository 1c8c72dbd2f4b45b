use Rattle.plex_report.specs.Lines.{shown_line}
use Rattle.report_lines.specs.Readable.{IsItem}
use Rattle.report_fronts.specs.Slots.Slot.{Listed}
use Rattle.report_read.specs.Reads.{AreRead}
use Rattle.report_read.proofs.transcripts.read_items.Given as goal

-- so many items are read
abbrev pub invariant-loop : goal.invariant-loop
invariant-loop l = AreRead l.script l.text l.fn.from Listed (shown_line l.script) (IsItem l.script) l.counter l.items l.to
