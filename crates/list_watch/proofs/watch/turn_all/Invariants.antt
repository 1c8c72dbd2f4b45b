use Rattle.list_watch.proofs.Imports.{◌≡◌, map, take, drop, row_turned}
use Rattle.list_watch.proofs.watch.turn_all.Given as goal

abbrev pub invariant-loop-row : goal.invariant-loop-row
invariant-loop-row l = (take l.row-index l.row-items ≡ map (row_turned l.header l.full)
    (take l.row-index l.initial.row-items)) × (drop l.row-index l.row-items ≡ drop l.row-index l.initial.row-items)
