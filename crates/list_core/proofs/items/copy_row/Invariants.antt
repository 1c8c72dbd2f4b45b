use Rattle.list_core.proofs.Imports.{◌≡◌, ◌<◌, drop, slice_get, count_of, rows_from}
use Rattle.list_core.proofs.items.copy_row.Given as goal

abbrev pub invariant-loop-header : goal.invariant-loop-header
invariant-loop-header l = (slice_get (rows_from l.header (drop l.header l.kept.content.lists)) l.left ≡ slice_get
    (rows_from 0 l.kept.content.lists) l.k) × (l.left < count_of (drop l.header l.kept.content.lists))
