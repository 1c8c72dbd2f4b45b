use Rattle.plex_run.proofs.Imports.{◌≡◌, ◌≤◌, ◌<◌, ◌^◌, length, take, concat, PassesOn}
use Rattle.plex_run.proofs.writing.write_lines.Given as goal

-- the lines before this one were put
abbrev pub invariant-loop-k : goal.invariant-loop-k
invariant-loop-k g l = record {
  passed : PassesOn (g.K.Sink.held l.initial.sink)
      (g.K.Sink.held l.sink) l.initial.piece.bytes.items l.piece.bytes.items (concat (take l.k l.report));
  bytes : l.bytes ≡ length (concat (take l.k l.report));
  small : l.bytes < 2 ^ 64;
  faults : g.K.Sink.faults l.initial.sink ≤ g.K.Sink.faults l.sink;
}
