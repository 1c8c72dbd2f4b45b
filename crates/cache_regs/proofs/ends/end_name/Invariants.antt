use Rattle.cache_regs.proofs.Imports.{◌≡◌, ◌≤◌, ends_below, HasEnded}
use Rattle.cache_regs.proofs.ends.end_name.Given as goal

abbrev pub invariant-loop-conn : goal.invariant-loop-conn
invariant-loop-conn l = record {
  ended : HasEnded (ends_below l.name l.spare l.conn) l.initial.maps.regs l.maps.regs l.initial.out.bits.items
      l.out.bits.items l.initial.out.bits.room l.out.bits.room;
  mail : l.out.mail ≡ l.initial.out.mail;
  place : l.initial.maps.room ≤ l.maps.room;
}
