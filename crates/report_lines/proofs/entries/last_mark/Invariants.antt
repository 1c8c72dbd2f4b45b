use Rattle.std.proofs.Common.{◌≡◌, ℕ, true, List, ◌++◌, length}
use Rattle.report_lines.specs.Entries.{is_free}
use Rattle.report_lines.proofs.entries.last_mark.Given as goal

-- no mark stands behind
abbrev pub invariant-loop-rest : goal.invariant-loop-rest
invariant-loop-rest l = (behind : List ℕ) × (l.line ≡ l.rest ++ behind) × (is_free 62 behind ≡ true)

abbrev pub decreases-loop-rest : goal.decreases-loop-rest
decreases-loop-rest l = length l.rest
