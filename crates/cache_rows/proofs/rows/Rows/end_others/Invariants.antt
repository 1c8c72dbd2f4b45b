use Rattle.cache_rows.proofs.Imports.{◌≡◌, ◌≤◌, drop, rows_but}
use Rattle.cache_rows.proofs.rows.Rows.end_others.Given as goal

abbrev pub invariant-loop-name : goal.invariant-loop-name
invariant-loop-name l =
    (rows_but l.spared (drop l.name-index l.names) l.self.rows ≡ rows_but l.spared l.names l.fn.self.rows)
    × (l.fn.self.room ≤ l.self.room) × (l.self.entries ≡ l.fn.self.entries) × (l.self.elements ≡ l.fn.self.elements)
