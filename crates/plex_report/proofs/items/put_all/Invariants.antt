use Rattle.plex_report.proofs.Imports.{◌≡◌, ◌++◌, drop, map, tail_of}
use Rattle.plex_report.proofs.items.put_all.Given as goal

-- with the items that are left the line is what it is to be
abbrev pub invariant-loop-item : goal.invariant-loop-item
invariant-loop-item g l = l.line.items ++ tail_of
    (map g.T.Item.word (drop l.item-index l.items)) ≡ l.initial.line.items ++ tail_of (map g.T.Item.word l.items)
