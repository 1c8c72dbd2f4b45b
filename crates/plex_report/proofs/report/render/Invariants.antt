use Rattle.plex_report.proofs.Imports.{◌≡◌, take, flat_map, line_text, report_lines}
use Rattle.plex_report.proofs.report.render.Given as goal

-- the lines before this one stand there
abbrev pub invariant-loop-k : goal.invariant-loop-k
invariant-loop-k l = l.text.items ≡ flat_map line_text (take l.k (report_lines l.script l.histories l.transcripts))
