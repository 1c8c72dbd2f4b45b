use Rattle.plex_report.specs.Lines.{history_lines}
use Rattle.report_fronts.specs.Slots.{history_slot}
use Rattle.report_read.specs.Histories.{IsHistory}
use Rattle.report_read.specs.Reads.{AreEachRead}
use Rattle.report_read.proofs.histories.read_histories.Given as goal

abbrev pub invariant-loop-number : goal.invariant-loop-number
invariant-loop-number l = AreEachRead l.script l.text l.fn.from (history_slot l.script) (history_lines l.script)
    (IsHistory l.script) l.number l.histories l.to
