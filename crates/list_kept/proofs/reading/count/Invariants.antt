use Rattle.list_kept.proofs.Imports.{◌≡◌, ◌+◌, drop, count_of}
use Rattle.list_kept.proofs.reading.count.Given as goal

abbrev pub invariant-loop-header : goal.invariant-loop-header
invariant-loop-header l = l.total + count_of (drop l.header l.kept.content.lists) ≡ count_of l.kept.content.lists
