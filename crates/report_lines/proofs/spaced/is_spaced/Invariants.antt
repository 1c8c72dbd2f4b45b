use Rattle.std.proofs.Common.{◌≡◌, length}
use Rattle.plex_spell.specs.Words.{is_nonempty}
use Rattle.report_lines.specs.Spaced.{is_spaced_at}
use Rattle.report_lines.proofs.spaced.is_spaced.Given as goal

abbrev pub invariant-loop-rest : goal.invariant-loop-rest
invariant-loop-rest l = is_spaced_at l.fresh l.rest ≡ is_spaced_at (is_nonempty l.line) l.line

abbrev pub decreases-loop-rest : goal.decreases-loop-rest
decreases-loop-rest l = length l.rest
