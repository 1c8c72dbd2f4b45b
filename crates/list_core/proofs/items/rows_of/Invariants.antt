use Rattle.list_core.proofs.Imports.{◌≡◌, ◌++◌, drop, map, told_row}
use Rattle.list_core.proofs.items.rows_of.Given as goal

abbrev pub invariant-loop-watch : goal.invariant-loop-watch
invariant-loop-watch l = l.rows.items ++ map
    (told_row l.kept.content.lists) (drop l.watch-index l.watches) ≡ map (told_row l.kept.content.lists) l.watches
