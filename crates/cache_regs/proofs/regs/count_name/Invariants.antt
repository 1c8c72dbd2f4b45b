use Rattle.cache_regs.proofs.Imports.{◌≡◌, ◌≤◌, length, filter, ends_below}
use Rattle.cache_regs.proofs.regs.count_name.Given as goal

abbrev pub invariant-loop-conn : goal.invariant-loop-conn
invariant-loop-conn l =
    (l.count ≡ length (filter (ends_below l.name l.spare l.conn) l.maps.regs)) × (l.count ≤ l.conn)
