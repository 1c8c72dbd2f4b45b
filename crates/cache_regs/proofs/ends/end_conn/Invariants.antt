use Rattle.cache_regs.proofs.Imports.{◌≡◌, ◌≤◌, is_below, HasEnded}
use Rattle.cache_regs.proofs.ends.end_conn.Given as goal

abbrev pub invariant-loop-index : goal.invariant-loop-index
invariant-loop-index l = record {
  ended : HasEnded (is_below l.conn l.index) l.initial.maps.regs l.maps.regs l.initial.out.bits.items l.out.bits.items
      l.initial.out.bits.room l.out.bits.room;
  mail : l.out.mail ≡ l.initial.out.mail;
  place : l.initial.maps.room ≤ l.maps.room;
}
