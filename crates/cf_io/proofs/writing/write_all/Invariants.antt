use Rattle.cf_io.proofs.Imports.{length, ◌-◌, ◌+◌, ◌≤◌, take, Appends}
use Rattle.cf_io.proofs.writing.write_all.Given as goal

abbrev pub invariant-loop-written : goal.invariant-loop-written
invariant-loop-written g l = record {
  within : l.written ≤ length l.text;
  taken : Appends (g.K.Sink.held l.initial.sink) (g.K.Sink.held l.sink) (take l.written l.text);
  faults : g.K.Sink.faults l.initial.sink ≤ g.K.Sink.faults l.sink;
  calls : g.K.Sink.calls l.sink ≤ g.K.Sink.calls l.initial.sink + l.written;
}

abbrev pub decreases-loop-written : goal.decreases-loop-written
decreases-loop-written g l = length l.text - l.written
