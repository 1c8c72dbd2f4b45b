use Rattle.cf_io.proofs.Imports.{◌-◌, ◌+◌, ◌≤◌, vec_len, Consumes}
use Rattle.cf_io.proofs.reading.read_all.Given as goal

abbrev pub invariant-loop-piece : goal.invariant-loop-piece
invariant-loop-piece g l = record {
  taken : Consumes (g.S.Source.left l.initial.source) (g.S.Source.left l.source) l.text.items;
  short : vec_len l.text ≤ l.limit + 1;
  faults : g.S.Source.faults l.initial.source ≤ g.S.Source.faults l.source;
  calls : g.S.Source.calls l.source ≤ g.S.Source.calls l.initial.source + vec_len l.text;
}

abbrev pub decreases-loop-piece : goal.decreases-loop-piece
decreases-loop-piece g l = l.limit + 1 - vec_len l.text
