use Rattle.plex_load.proofs.Imports.{◌≡◌, ◌++◌, map, range_with_len, number_after, work_line}
use Rattle.plex_load.proofs.work.put_work.Given as goal

-- the lines before this one stand there, and the number is that of the last of them
abbrev pub invariant-loop-before : goal.invariant-loop-before
invariant-loop-before l = record {
  number : l.last ≡ number_after l.before l.number;
  lines : l.lines.items ≡ l.initial.lines.items ++ map (work_line l.caller l.number) (range_with_len 1 l.before);
}
